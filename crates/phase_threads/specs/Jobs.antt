-- The workers of a phase, and what they leave. Histories have the newest entry first.
use Rattle.std.specs.Prelude.{ℕ, ◌≡◌, ◌+◌, ◌<◌, ◌≤◌, Bool, false, List, [], ◌∷◌, ◌++◌, length, map, reverse, All}
use Rattle.std.specs.Prelude.{Option}
use Rattle.std.specs.Prelude.{slice_index_or}
use Rattle.bus_turn.specs.Passes.{part_of}
use Rattle.board_prelude.specs.{Entry, Statement, Setup, IsInRange, IsLegal, entries_by, events_by, range_with_len}
use Rattle.board_prelude.specs.{statements_of, HasPhases, most_statements}
use Rattle.board_core.specs.Kept.{Standing}
use Rattle.board_live.specs.declared.shared.Origin.{Origin}
use Rattle.board_live.specs.Callers.{IsCallerOf, IsNew, setup_of, seen_of, mine_of, known_of}
use Rattle.run_order.specs.declared.done.Done.{Done}
use Rattle.run_order.specs.Placing.{done_by, is_look, placed}
use Rattle.run_order.specs.PhaseRun.{IsWork, bare}
use Rattle.run_order.specs.Written.{written}
use Rattle.run_order.specs.Places.{AreInPlace}
use Rattle.run_order.specs.Trace.{Begins}
use Rattle.phase_threads.specs.declared.worker.Work.{Work}
use Rattle.phase_threads.specs.declared.jobs.Job.{Job}
use Rattle.phase_threads.specs.declared.run.Run.{Run}
use Rattle.phase_threads.specs.Shared.{TheLive}
use Rattle.phase_threads.specs.Works.{HasDone, Page, page, page_of}

-- a statement of a processor below `cpus`, with an event in range for this setup
pub record IsStatement (setup : Setup) (cpus : ℕ) (statement : Statement) : Type 0 where
  pub actor : statement.actor < cpus
  pub event : IsInRange setup statement.event

-- no statement is a look
abbrev pub HasNoLook : List Statement → Type 0
HasNoLook phase = All (λ statement. is_look statement.event ≡ false) phase

-- from processor 0 on, each work says how many statements its processor has in a phase
abbrev pub AreDue : List Statement → List Work → Type 0
AreDue phase works =
    map (λ work. work.due) works ≡ map (λ actor. length (events_by actor phase)) (range_with_len 0 (length works))

-- what the workers of a phase begin with: a board that was just opened, whose part in the turn is `part`, and what each
-- processor's worker has written. Whether what is done in the phase is kept, and how many statements each was given at
-- most until then
pub record Start : Type 0 where
  pub board : Standing
  pub part : Option Origin
  pub pages : ℕ → Page
  pub keeps : Bool
  pub most : ℕ

-- a worker that is about to do a phase, with a caller of the board
pub record IsReadyToWork (live : TheLive) (start : Start) (phase : List Statement) (job : Job) : Type 0 where
  pub own : IsCallerOf live job.cpu
  pub same : part_of job.cpu.pass ≡ start.part
  pub new : IsNew start.board job.cpu
  pub in_range : All (λ statement. IsInRange start.board.setup statement.event) phase
  pub plain : start.keeps ≡ false → HasNoLook phase
  pub empty : job.work.done.items ≡ []
  pub due : job.work.due ≡ length (events_by job.cpu.number phase)
  pub lines : page job.work ≡ start.pages job.cpu.number
  pub keeps : job.work.keeps ≡ start.keeps
  pub mine : length (entries_by job.cpu.number start.board.entries) ≤ start.most
  pub asked : job.work.asked ≤ start.most
  pub room : start.most + length phase ≤ most_statements

abbrev pub CanRun : TheLive → List Statement → Job → Type 0
CanRun live phase job = (start : Start) × IsReadyToWork live start phase job

-- a worker that did its processor's statements of a phase, or was refused memory
pub record IsRun (live : TheLive) (start : Start) (phase : List Statement) (job : Job) : Type 0 where
  pub own : IsCallerOf live job.cpu
  pub same : part_of job.cpu.pass ≡ start.part
  pub setup : setup_of job.cpu ≡ start.board.setup
  pub asked : job.refused ≡ false → job.work.asked ≤ start.most + length phase
  pub mine : job.refused ≡ false → length (mine_of job.cpu) ≤ start.most + length phase
  pub done :
      job.refused ≡ false → (own : List Entry) → start.pages job.cpu.number ≡ page_of own →
      HasDone start.board.setup job.cpu.number start.board.entries (events_by job.cpu.number phase) own start.keeps
      job.work (seen_of job.cpu) (known_of job.cpu)

-- what a worker does of a phase
pub record Runs (live : TheLive) (phase : List Statement) (before now : Job) : Type 0 where
  pub number : now.cpu.number ≡ before.cpu.number
  pub run : (start : Start) → IsReadyToWork live start phase before → IsRun live start phase now

-- no processor was given more than so many statements
pub record AreAsked (most : ℕ) (entries : List Entry) (works : List Work) : Type 0 where
  pub actors : All (λ entry. entry.actor < length works) entries
  pub mine : (actor : ℕ) → length (entries_by actor entries) ≤ most
  pub asked : All (λ work. work.asked ≤ most) works

abbrev pub done_in : List Work → List (List Done)
done_in works = map (λ work. work.done.items) works

-- what each worker has written
abbrev pub pages_in : List Work → List Page
pages_in works = map page works

-- what one processor's has
abbrev pub page_by : ℕ → List Work → Page
page_by actor works = slice_index_or (pages_in works) actor ([], 0)

-- each worker has written the lines of its processor's entries
abbrev pub AreTold : (ℕ → List Entry) → List Work → Type 0
AreTold own works = (actor : ℕ) → actor < length works → page_by actor works ≡ page_of (own actor)

-- workers that had written the lines of these entries did a phase, which led from one state of the board to another.
-- `lists` is what they did; it has the same place in the history of the run as what they kept of it
pub record HasRun (own : ℕ → List Entry) (before now : Standing) (phase : List Statement) (works : List Work) : Type 0
  where
    pub setup : now.setup ≡ before.setup
    pub begins : Begins before.entries now.entries
    pub lists : List (List Done)
    pub count : length lists ≡ length works
    pub each :
        (actor : ℕ) → actor < length works →
        IsWork before.setup before.entries now.entries phase actor (done_by 0 actor lists)
    pub same :
        (version : ℕ) (later history : List Entry) →
        placed version later (done_in works) history ≡ placed version later lists history
    pub lines :
        (later : List Entry) → reverse later ++ before.entries ≡ now.entries →
        AreTold (λ actor. written actor (done_by 0 actor lists) (entries_by actor later) (own actor)) works

-- a board between two phases, with 1 to 8 processors, can do a phase with these statements: they are in range, and no
-- processor was given more than `most` until then
pub record CanDoPhase (run : Run) (phase : List Statement) : Type 0 where
  pub some : 1 ≤ length run.works.items
  pub few : length run.works.items ≤ 8
  pub in_range : All (IsStatement run.board.setup (length run.works.items)) phase
  pub most : ℕ
  pub asked : AreAsked most run.board.entries run.works.items
  pub room : most + length phase ≤ most_statements

-- after a phase there are as many processors, each of which was given at most the statements of the phase more
pub record GrowsBy (phase : List Statement) (before now : Run) : Type 0 where
  pub count : length now.works.items ≡ length before.works.items
  pub asked :
      (most : ℕ) → AreAsked most before.board.entries before.works.items → most + length phase ≤ most_statements →
      AreAsked (most + length phase) now.board.entries now.works.items

-- the history of a run, which was `history` before a phase, is legal with it, has the entries of the board's own, and
-- has one phase more, in which each look is in its place. The workers have written the lines of it
pub record TakesIn (phase : List Statement) (before now : Standing) (works : List Work) (history all : List Entry)
    : Type 0 where
  pub legal : IsLegal before.setup all
  pub same : bare all ≡ bare now.entries
  pub phases :
      (phases : List (List Statement)) → HasPhases phases (statements_of history) →
      HasPhases (phases ++ phase ∷ []) (statements_of all)
  pub added : List Entry
  pub adds : all ≡ added ++ history
  pub size : length added ≡ length phase
  pub callers : All (λ entry. entry.actor < length works) added
  pub places : AreInPlace before.setup history added
  pub told : AreTold (λ actor. entries_by actor all) works
