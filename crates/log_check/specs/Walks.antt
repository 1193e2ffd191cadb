-- The walk over a log: how far it is, and where it stops.
use Rattle.std.specs.Prelude.{ℕ, ◌≡◌, ◌≢◌, ◌+◌, ◌++◌, List, [], ◌∷◌, length}
use Rattle.board_prelude.specs.{Event, Entry, Statement, Setup, IsNext, IsLegal, statements_of, events_by, HasPhases}
use Rattle.board_prelude.specs.{IsCompleteFor, IsBegunFor, line_feed, line_text, log_text}
use Rattle.script_spec.specs.Checks.{DiffersAt}
use Rattle.log_check.specs.declared.fault.CheckFault.{CheckFault}
use Rattle.log_check.specs.declared.fault.CheckFault.TheVariants.{Differs, NoMemory}
use Rattle.log_check.specs.Checked.{IsAtLine, StandsAfter}

-- a place in a walk over bytes: the phases that are done, those after the one that is open, and how many statements of
-- the open one are done
pub record WalkPlace : Type 0 where
  pub version : ℕ
  pub bytes : List ℕ
  pub done : List (List Statement)
  pub later : List (List Statement)
  pub count : ℕ

-- a history has all of the phases that are done, and so many statements of the open phase, of which its processors have
-- the others left
pub record IsWithin (place : WalkPlace) (phase : List Statement) (left : ℕ → List Event)
    (history : List Entry) : Type 0 where
  pub before : List Statement
  pub part : List Statement
  pub statements : statements_of history ≡ before ++ part
  pub whole : HasPhases place.done before
  pub size : length part ≡ place.count
  pub each : (actor : ℕ) → events_by actor phase ≡ events_by actor part ++ left actor

-- the walk is past the log of a history
abbrev pub IsPast : WalkPlace → List Entry → List ℕ → Type 0
IsPast place history rest = place.bytes ≡ log_text place.version history ++ rest

-- with no entry that may come next does the text go on
abbrev pub GoesOnWithNone : Setup → List (List Statement) → List Entry → List ℕ → Type 0
GoesOnWithNone setup phases history rest =
    (entry : Entry) (after : List ℕ) → IsNext setup history entry → IsBegunFor phases (entry ∷ history) →
    rest ≢ line_text (length history + 1) entry ++ line_feed ∷ after

-- the walk cannot go on at this line
pub record StopsAt (setup : Setup) (version : ℕ) (phases : List (List Statement)) (bytes : List ℕ)
    (entries : List Entry) (line : ℕ) : Type 0 where
  pub at_line : IsAtLine version bytes entries line
  pub legal : IsLegal setup at_line.before
  pub begun : IsBegunFor phases at_line.before
  pub none : GoesOnWithNone setup phases at_line.before at_line.rest
  pub unfinished : at_line.rest ≡ [] → ¬ IsCompleteFor phases at_line.before

abbrev pub StoppedBy :
    Setup → (version : ℕ) → List (List Statement) → (bytes : List ℕ) → List Entry → CheckFault → Type 0
StoppedBy setup version phases bytes entries (Differs line) = StopsAt setup version phases bytes entries line
StoppedBy setup version phases bytes entries NoMemory = (line : ℕ) × IsAtLine version bytes entries line

-- the walk stopped by a fault, with these entries
pub record StoppedCheck (setup : Setup) (version : ℕ) (phases : List (List Statement)) (bytes : List ℕ)
    (entries : List Entry) (fault : CheckFault) : Type 0 where
  pub by : StoppedBy setup version phases bytes entries fault
  pub legal : IsLegal setup entries
  pub begun : IsBegunFor phases entries

abbrev pub Refused : Setup → (version : ℕ) → List (List Statement) → (bytes : List ℕ) → CheckFault → Type 0
Refused setup version phases bytes (Differs line) = DiffersAt setup version phases bytes line
Refused setup version phases bytes NoMemory = Unit {0}

-- a check was not passed, by a fault, and these entries stand
pub record FailedCheck (setup : Setup) (version : ℕ) (phases : List (List Statement)) (bytes : List ℕ)
    (entries : List Entry) (fault : CheckFault) : Type 0 where
  pub refused : Refused setup version phases bytes fault
  pub legal : IsLegal setup entries
  pub begun : IsBegunFor phases entries
  pub stands : StandsAfter version bytes entries fault
