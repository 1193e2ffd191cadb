use Rattle.std.proofs.Common.{[], arith}
use Rattle.run_order.proofs.Counts.{count_next}
use Rattle.run_order.proofs.order.entries_in.Goals as goal

pub loop-done-init : goal.loop-done-init
loop-done-init c = record { count = λ few. omega arith; small = omega arith }

pub loop-done-preserved : goal.loop-done-preserved
loop-done-preserved c =
    let next = count_next (λ done. done.now) c.deref-done-items.result.now c.loop-done.done-index
    (record { ref_ptr = (0, 0); now = [] }) c.loop-done-test.true in
    let sum = c.saturating_add-count.ensures in let one = c.looks_in.ensures.count in
    let was = c.loop-done.invariant in grind (arith, next, sum, one, was)
