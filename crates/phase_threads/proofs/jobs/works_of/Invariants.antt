use Rattle.std.proofs.Common.{◌≡◌, length, map, take}
use Rattle.phase_threads.specs.Jobs.{done_in}
use Rattle.phase_threads.proofs.jobs.works_of.Given as goal

abbrev pub invariant-loop-work : goal.invariant-loop-work
invariant-loop-work l = record {
  done : map (λ done. done.now) l.all.items ≡ done_in (take l.work-index l.works);
  count : length l.all.items ≡ l.work-index;
}
