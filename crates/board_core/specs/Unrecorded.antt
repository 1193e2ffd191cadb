-- What a board that records no history keeps of it.
use Rattle.std.specs.Prelude.{ℕ, ◌≡◌, ◌+◌, ◌<◌, ◌≤◌, List, length, map, reverse}
use Rattle.board_prelude.specs.{Entry, entry_limit}
use Rattle.board_core.specs.Kept.{Playing, HasPlayed}

-- the processors of the entries, the oldest first
abbrev pub actors_of : List Entry → List ℕ
actors_of history = map (λ entry. entry.actor) (reverse history)

-- its replay has played this history, and it keeps the processor of each entry, with room for more
pub record IsPlayed (replay : Playing) (history : List Entry) (actors : List ℕ) (spare capacity : ℕ) : Type 0 where
  pub room : length history + spare < entry_limit
  pub played : HasPlayed replay history
  pub actors_are : actors ≡ actors_of history
  pub fits : length actors + spare ≤ capacity
