use Rattle.std.proofs.Common.{◌≡◌, ◌<◌, ◌++◌, length, map, reverse, flat_map, All}
use Rattle.board_prelude.proofs.{into_iter_items, IsLegal, entries_by, statements_of, HasPhases}
use Rattle.std.specs.Vec.Iter.{into_iter_len}
use Rattle.run_order.specs.PhaseRun.{bare}
use Rattle.run_order.specs.Places.{AreAllInPlace}
use Rattle.phase_threads.specs.Jobs.{AreAsked, AreTold}
use Rattle.phase_threads.specs.Placed.{entries_of, IsUpTo}
use Rattle.phase_threads.proofs.run.run_phases.Given as goal

abbrev pub invariant-loop-phase : goal.invariant-loop-phase
invariant-loop-phase g l = record {
  left : l.yielded ++ into_iter_items l.phase-iterator ≡ l.fn.phases.items;
  len : into_iter_len l.phase-iterator ≡ length (into_iter_items l.phase-iterator);
  setup : l.run.board.setup ≡ l.fn.board.setup;
  count : length l.run.works.items ≡ l.fn.cpus;
  legal : IsLegal l.fn.board.setup (entries_of l.placing.order l.run.board.entries);
  same : bare (entries_of l.placing.order l.run.board.entries) ≡ bare l.run.board.entries;
  up_to : IsUpTo l.placing.order l.run.board.entries;
  callers : All (λ entry. entry.actor < l.fn.cpus) (entries_of l.placing.order l.run.board.entries);
  told : AreTold (λ actor. entries_by actor (entries_of l.placing.order l.run.board.entries)) l.run.works.items;
  phases : HasPhases (map (λ phase. phase.items) l.yielded)
      (statements_of (entries_of l.placing.order l.run.board.entries));
  places : AreAllInPlace l.fn.board.setup (reverse (map (λ phase. phase.items) l.yielded))
      (entries_of l.placing.order l.run.board.entries);
  asked : AreAsked (length (flat_map (λ phase. phase.items) l.yielded)) l.run.board.entries l.run.works.items;
}
