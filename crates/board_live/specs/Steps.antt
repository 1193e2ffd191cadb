-- A step of the shared board, of whatever kind it is.
use Rattle.std.specs.Prelude.{ℕ, ◌≡◌, ◌∷◌, length}
use Rattle.board_prelude.specs.{Event, IsAnswer, next_entry}
use Rattle.board_core.specs.Kept.{Standing}
use Rattle.board_core.specs.declared.steps.Steps.{Ghosts}
use Rattle.board_live.specs.declared.shared.Answered.{Answered}
use Rattle.board_live.specs.declared.shared.Shared.{Shared}
use Rattle.board_live.specs.declared.shared.Origin.{Origin}
use Rattle.board_live.specs.Known.{oldest}
use Rattle.board_live.specs.Origins.{origin}

module _ {B : Type 0} {steps : Ghosts B} where
  -- the board that is shared: its setup, its history with the newest entry first, and the room for more
  abbrev pub board_of : Shared B steps → Standing
  board_of shared = steps.standing shared.board.value

  -- what a shared board was opened with
  abbrev pub opened_with : Shared B steps → Origin
  opened_with shared =
      origin (board_of shared).setup shared.callers (oldest shared.opened (board_of shared).entries)
      shared.publisher.value.front.seen.book

  -- the same board, publisher and callers
  pub record IsSameBoard (before now : Shared B steps) : Type 0 where
    pub setup : (board_of now).setup ≡ (board_of before).setup
    pub opened : oldest now.opened (board_of now).entries ≡ oldest before.opened (board_of before).entries
    pub callers : now.callers ≡ before.callers
    pub book : now.publisher.value.front.seen.book ≡ before.publisher.value.front.seen.book

-- a board did an event of a caller, which added one entry
pub record AddsEntry (number : ℕ) (event : Event) (answered : Answered) (before now : Standing) : Type 0 where
  pub place : answered.place ≡ length before.entries
  pub answer : IsAnswer before.setup before.entries event answered.reply
  pub entry : now.entries ≡ next_entry before.entries number event answered.reply ∷ before.entries
