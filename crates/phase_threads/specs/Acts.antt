-- A phase in which one processor acts.
use Rattle.std.specs.Prelude.{ℕ, ◌≡◌, ◌+◌, ◌<◌, ◌≤◌, Bool, false, List, [], length, All, set}
use Rattle.board_prelude.specs.{Entry, Statement, IsInRange, entries_by, events_by, map_writes_of, most_statements}
use Rattle.board_core.specs.Kept.{Standing}
use Rattle.phase_threads.specs.declared.worker.Work.{Work}
use Rattle.phase_threads.specs.Works.{HasDone, page_of}
use Rattle.phase_threads.specs.Jobs.{HasNoLook, page_by}
use Rattle.phase_threads.specs.Others.{others}

-- a processor can do the statements of a phase at a board that nobody else uses
pub record CanAct (number : ℕ) (board : Standing) (works : List Work) (keeps : Bool) (phase : List Statement) : Type 0
  where
    pub in_range : All (λ statement. IsInRange board.setup statement.event) phase
    pub plain : keeps ≡ false → HasNoLook phase
    pub within : number < length works
    pub empty : All (λ work. work.done.items ≡ []) works
    pub kept : All (λ work. work.keeps ≡ keeps) works
    pub few : length (others number board.entries) ≤ 2_000_000
    pub room : length (entries_by number board.entries) + length phase ≤ most_statements
    pub asked : All (λ work. work.asked + length phase ≤ most_statements) works

-- it has done them: the entries of the others are as before, and so are their works
pub record HasActed (number : ℕ) (before now : Standing) (keeps : Bool) (phase : List Statement) (old new : List Work)
    : Type 0 where
  pub setup : now.setup ≡ before.setup
  pub others : others number now.entries ≡ others number before.entries
  pub mine : length (entries_by number now.entries) ≤ length (entries_by number before.entries) + length phase
  pub work : Work
  pub is : new ≡ set old number work
  pub asked : (most : ℕ) → All (λ work. work.asked ≤ most) old → work.asked ≤ most + length phase
  pub done :
      (own : List Entry) → page_by number old ≡ page_of own →
      HasDone before.setup number before.entries (events_by number phase) own keeps work now.entries
      (map_writes_of now.setup now.entries)
