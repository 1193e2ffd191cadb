use Rattle.std.proofs.Common.{arith}
use Rattle.run_order.proofs.Counts.{looks_next}
use Rattle.run_order.proofs.next.looks_in.Goals as goal

pub loop-one-preserved : goal.loop-one-preserved
loop-one-preserved c =
    let l = c.loop-one in
    record {
      count = looks_next c.args.done.now l.one-index _ l.count c.one_if_look-count.result c.loop-one-test.true
          l.invariant.count c.one_if_look-count.ensures.count;
      few = omega (arith, c.one_if_look-count.ensures.small, l.invariant.few);
    }
