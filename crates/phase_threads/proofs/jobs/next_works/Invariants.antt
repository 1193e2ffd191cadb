use Rattle.std.proofs.Common.{◌≡◌, [], ◌++◌, length, All}
use Rattle.std.specs.Vec.Iter.{into_iter_len}
use Rattle.board_prelude.proofs.{into_iter_items}
use Rattle.phase_threads.specs.Jobs.{AreDue, pages_in}
use Rattle.phase_threads.proofs.jobs.next_works.Given as goal

abbrev pub invariant-loop-work : goal.invariant-loop-work
invariant-loop-work l = record {
  left : l.yielded ++ into_iter_items l.work-iterator ≡ l.fn.works.items;
  len : into_iter_len l.work-iterator ≡ length (into_iter_items l.work-iterator);
  pages : pages_in l.next.items ≡ pages_in l.yielded;
  empty : All (λ work. work.done.items ≡ []) l.next.items;
  keeps : All (λ work. work.keeps ≡ l.keeps) l.next.items;
  due : AreDue l.phase l.next.items;
}
