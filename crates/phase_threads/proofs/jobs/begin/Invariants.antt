use Rattle.std.proofs.Common.{◌≡◌, ◌+◌, ◌≤◌, ◌++◌, length, map, reverse, vec_capacity}
use Rattle.phase_threads.specs.declared.jobs.Job.{Job}
use Rattle.phase_threads.proofs.jobs.begin.Given as goal

abbrev pub invariant-loop-cpu : goal.invariant-loop-cpu
invariant-loop-cpu l = record {
  cpus : l.cpus.items ++ map (λ (job : Job). job.cpu) (reverse l.jobs.items) ≡ l.fn.cpus.items;
  works : l.works.items ++ map (λ (job : Job). job.work) (reverse l.jobs.items) ≡ l.fn.works.items;
  same : length l.works.items ≡ length l.cpus.items;
  room : length l.jobs.items + length l.cpus.items ≤ vec_capacity l.jobs;
  cpus_room : vec_capacity l.cpus ≡ vec_capacity l.fn.cpus;
  works_room : vec_capacity l.works ≡ vec_capacity l.fn.works;
}

abbrev pub decreases-loop-cpu : goal.decreases-loop-cpu
decreases-loop-cpu l = length l.cpus.items
