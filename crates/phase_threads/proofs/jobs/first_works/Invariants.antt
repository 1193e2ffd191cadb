use Rattle.std.proofs.Common.{◌≡◌, [], length, All}
use Rattle.phase_threads.specs.Works.{page}
use Rattle.phase_threads.proofs.jobs.first_works.Given as goal

abbrev pub invariant-loop : goal.invariant-loop
invariant-loop l = record {
  count : length l.works.items ≡ l.counter;
  none : All (λ work. page work ≡ ([], 0)) l.works.items;
}
