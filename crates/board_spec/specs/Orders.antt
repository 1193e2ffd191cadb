-- The orders in which a script may run: the replay in file order, and the histories that `run` may make.
use Rattle.std.specs.Prelude.{ℕ, ◌≡◌, ◌≤◌, ◌⊎◌, ◌==◌, List, [], ◌∷◌, ◌++◌, length, map, reverse, filter, take, drop}
use Rattle.board_spec.specs.declared.event.Event.{Event}
use Rattle.board_spec.specs.declared.event.Entry.{Entry}
use Rattle.board_spec.specs.declared.event.Statement.{Statement}
use Rattle.board_spec.specs.Setup.{Setup}
use Rattle.board_spec.specs.Legal.{IsLegal}

-- what an entry states
abbrev pub statement_of : Entry → Statement
statement_of entry = record { actor = entry.actor; event = entry.event }

-- the statements of a history, the oldest first
abbrev pub statements_of : List Entry → List Statement
statements_of history = map statement_of (reverse history)

-- the replay of a list of statements: the legal history with just these, in order. There is exactly one
-- (`law_one_replay`)
pub record IsReplayOf (setup : Setup) (statements : List Statement) (history : List Entry) : Type 0 where
  pub legal : IsLegal setup history
  pub same : statements_of history ≡ statements

-- the events of a processor in a list of statements
abbrev pub events_by : ℕ → List Statement → List Event
events_by actor statements =
    map (λ statement. statement.event) (filter (λ statement. statement.actor == actor) statements)

-- a list begins with another
pub record BeginsWith (longer shorter : List Event) : Type 0 where
  pub rest : List Event
  pub whole : longer ≡ shorter ++ rest

-- a part of a history has every processor's statements of a phase, each processor's in its own order
pub record IsWholePhase (phase part : List Statement) : Type 0 where
  pub size : length part ≡ length phase
  pub each : (actor : ℕ) → events_by actor part ≡ events_by actor phase

-- a part of a history has the first of each processor's statements of a phase
pub record IsFrontOfPhase (phase part : List Statement) : Type 0 where
  pub size : length part ≤ length phase
  pub each : (actor : ℕ) → BeginsWith (events_by actor phase) (events_by actor part)

-- cut into parts as long as the phases, each part is its phase, with nothing after the last
abbrev pub HasPhases : List (List Statement) → List Statement → Type 0
HasPhases [] statements = statements ≡ []
HasPhases (phase ∷ later) statements =
    IsWholePhase phase (take (length phase) statements) × HasPhases later (drop (length phase) statements)

-- the same, where the statements may stop early in some phase
abbrev pub HasPhasesSoFar : List (List Statement) → List Statement → Type 0
HasPhasesSoFar [] statements = statements ≡ []
HasPhasesSoFar (phase ∷ later) statements =
    IsFrontOfPhase phase statements
    ⊎ (IsWholePhase phase (take (length phase) statements) × HasPhasesSoFar later (drop (length phase) statements))

-- a history is one that a script's phases may make, whole or so far
abbrev pub IsCompleteFor : List (List Statement) → List Entry → Type 0
IsCompleteFor phases history = HasPhases phases (statements_of history)

abbrev pub IsBegunFor : List (List Statement) → List Entry → Type 0
IsBegunFor phases history = HasPhasesSoFar phases (statements_of history)
