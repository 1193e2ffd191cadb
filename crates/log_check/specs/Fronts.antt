-- What the processors have left of a phase.
use Rattle.std.specs.Prelude.{ℕ, ◌≡◌, ◌+◌, ◌<◌, List, ◌∷◌, length, drop, slice_index, slice_get, Some}
use Rattle.board_prelude.specs.{Event, Statement, events_by}
use Rattle.log_check.specs.declared.front.Front.{Front}

-- the events of a processor that are not taken
abbrev pub left_of : Front → ℕ → List Event
left_of front actor = events_by actor (drop (slice_index front.places actor) front.phase.now)

-- the first statement of a processor at a place of a phase or after it stands here
pub record IsNextOf (phase : List Statement) (start actor place : ℕ) : Type 0 where
  pub within : place < length phase
  pub statement : Statement
  pub here : slice_get phase place ≡ Some statement
  pub own : statement.actor ≡ actor
  pub left : events_by actor (drop start phase) ≡ statement.event ∷ events_by actor (drop (place + 1) phase)
