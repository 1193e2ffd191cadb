use Rattle.std.proofs.Common.{◌≡◌, ◌+◌, ◌≤◌, ◌++◌, length, map, reverse, vec_capacity}
use Rattle.phase_threads.specs.declared.jobs.Job.{Job}
use Rattle.phase_threads.proofs.jobs.end.Given as goal

abbrev pub invariant-loop-job : goal.invariant-loop-job
invariant-loop-job l = record {
  cpus : l.cpus.items ++ map (λ (job : Job). job.cpu) (reverse l.jobs.items) ≡ map (λ (job : Job). job.cpu)
      (reverse l.fn.jobs.items);
  works : l.works.items ++ map (λ (job : Job). job.work) (reverse l.jobs.items) ≡ map (λ (job : Job). job.work)
      (reverse l.fn.jobs.items);
  cpus_room : length l.cpus.items + length l.jobs.items ≤ vec_capacity l.cpus;
  works_room : length l.works.items + length l.jobs.items ≤ vec_capacity l.works;
}

abbrev pub decreases-loop-job : goal.decreases-loop-job
decreases-loop-job l = length l.jobs.items
