-- What a call of the bus does.
use Rattle.std.specs.Prelude.{◌≡◌, List, ◌∷◌, length}
use Rattle.board_prelude.specs.{Event, Entry, IsAnswer, entries_by, next_entry, map_writes_of}
use Rattle.board_spec.specs.declared.event.Event.TheVariants.{Look as LookAt}
use Rattle.board_core.specs.declared.steps.Steps.{Ghosts}
use Rattle.board_live.specs.declared.shared.Answered.{Answered}
use Rattle.board_live.specs.declared.cpu.Cpu.{Cpu}
use Rattle.board_live.specs.Known.{Extends}
use Rattle.board_live.specs.Callers.{setup_of, seen_of, mine_of, known_of}

-- a look is asked of the caller itself, not of the bus
abbrev pub IsNoLook : Event → Type 0
IsNoLook (LookAt kind addr smm) = ⊥
IsNoLook _ = Unit {0}

module _ {B : Type 0} {steps : Ghosts B} where
  -- a call of the bus added one entry to `list`, which is the shared history as it was when the turn was taken
  pub record AddsByBus (event : Event) (answered : Answered) (before now : Cpu B steps) : Type 0 where
    pub list : List Entry
    pub begins : Extends (seen_of before) list
    pub own : entries_by before.number list ≡ mine_of before
    pub meets : Extends (known_of before) (map_writes_of (setup_of before) list)
    pub place : answered.place ≡ length list
    pub answer : IsAnswer (setup_of before) list event answered.reply
    pub seen : seen_of now ≡ next_entry list before.number event answered.reply ∷ list
    pub mine : mine_of now ≡ next_entry list before.number event answered.reply ∷ mine_of before
    pub known : known_of now ≡ map_writes_of (setup_of before) (seen_of now)

  -- a call of the bus was refused: it added no entry and published nothing
  pub record AddsNone (before now : Cpu B steps) : Type 0 where
    pub begins : Extends (seen_of before) (seen_of now)
    pub mine : mine_of now ≡ mine_of before
    pub meets : Extends (known_of before) (known_of now)
    pub known : known_of now ≡ map_writes_of (setup_of before) (seen_of now)
