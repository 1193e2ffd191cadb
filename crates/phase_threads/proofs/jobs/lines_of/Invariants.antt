use Rattle.std.proofs.Common.{◌≡◌, ◌++◌, length, map}
use Rattle.std.specs.Vec.Iter.{into_iter_len}
use Rattle.board_prelude.proofs.{into_iter_items}
use Rattle.phase_threads.specs.declared.worker.Work.{Work}
use Rattle.phase_threads.proofs.jobs.lines_of.Given as goal

abbrev pub invariant-loop-work : goal.invariant-loop-work
invariant-loop-work l = record {
  left : l.yielded ++ into_iter_items l.work-iterator ≡ l.fn.works.items;
  len : into_iter_len l.work-iterator ≡ length (into_iter_items l.work-iterator);
  lines : l.all.items ≡ map (λ (work : Work). work.lines) l.yielded;
}
