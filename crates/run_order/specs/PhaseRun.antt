-- A phase that was run, and the history of the run with that phase.
use Rattle.std.specs.Prelude.{ℕ, ◌≡◌, ◌<◌, if◌then◌else◌, List, [], ◌∷◌, ◌++◌, length, map, reverse, All}
use Rattle.board_prelude.specs.{Event, Reply, Entry, Statement, MapChange, Setup, IsCardList, version_of, IsAnswer}
use Rattle.board_prelude.specs.{IsLegal, entries_by, statements_of, events_by, HasPhases}
use Rattle.run_order.specs.declared.done.Done.{Done}
use Rattle.run_order.specs.Placing.{is_look, event_of, done_by, placed}
use Rattle.run_order.specs.Places.{AreInPlace}
use Rattle.run_order.specs.Trace.{IsDone, IsClosed}
use Rattle.run_order.specs.Written.{written}

-- ---- the phase

-- what a processor did of a phase led from the bus's history `opened` to its history `whole`
pub record IsWork (setup : Setup) (opened whole : List Entry) (phase : List Statement) (actor : ℕ)
    (done : List Done) : Type 0 where
  pub seen : List Entry
  pub known : List MapChange
  pub trace : IsDone setup actor opened (reverse done) seen known
  pub closed : IsClosed setup actor seen known whole
  pub said : map event_of done ≡ events_by actor phase

-- a phase that was run: `opened` is the bus's history before it, `later` what the history gained in it, the oldest
-- first, and `works` what each processor did, from processor 0 on
pub record IsPhaseRun (setup : Setup) (opened later : List Entry) (phase : List Statement)
    (works : List (List Done)) : Type 0 where
  pub cards : IsCardList setup.cards
  pub legal : IsLegal setup (reverse later ++ opened)
  pub callers : All (λ entry. entry.actor < length works) later
  pub speakers : All (λ statement. statement.actor < length works) phase
  pub each : (actor : ℕ) → actor < length works →
      IsWork setup opened (reverse later ++ opened) phase actor (done_by 0 actor works)

-- ---- histories without their looks

-- a history without its looks and its numbers
unfoldable pub bare : List Entry → List Entry
bare [] = []
bare (entry ∷ before) = if is_look entry.event then bare before else record entry { seq = 0 } ∷ bare before

-- no answer depends on the looks and the numbers before it
abbrev pub AnswersAreBlind : Type 0
AnswersAreBlind =
    (setup : Setup) (before other : List Entry) → bare before ≡ bare other → (event : Event) (reply : Reply) →
    IsAnswer setup other event reply → IsAnswer setup before event reply

-- ---- the history of the run

-- `history` is the history of the run before a phase, and `all` the one with what the phase added
pub record IsPlaced (setup : Setup) (opened later : List Entry) (phase : List Statement) (works : List (List Done))
    (history all : List Entry) : Type 0 where
  pub legal : IsLegal setup all
  pub bus : bare all ≡ bare (reverse later ++ opened)
  pub phases : (phases : List (List Statement)) → HasPhases phases (statements_of history) →
      HasPhases (phases ++ phase ∷ []) (statements_of all)
  pub added : List Entry
  pub adds : all ≡ added ++ history
  pub size : length added ≡ length phase
  pub callers : All (λ entry. entry.actor < length works) added
  pub places : AreInPlace setup history added
  pub own :
      (actor : ℕ) →
      entries_by actor all ≡ written actor (done_by 0 actor works) (entries_by actor later) (entries_by actor history)

-- with its looks placed, the history of a run stays legal and that of the bus, and has one phase more, in which each
-- look is in its place and each processor's entries are what it did
abbrev pub PhaseRuns : Type 0
PhaseRuns =
    (setup : Setup) (opened later : List Entry) (phase : List Statement) (works : List (List Done))
    (history : List Entry) →
    IsPhaseRun setup opened later phase works → IsLegal setup history → bare history ≡ bare opened →
    IsPlaced setup opened later phase works history (placed (version_of setup opened) later works history)
