use Rattle.std.proofs.Common.{arith, length, ◌<◌}
use Rattle.board_prelude.proofs.{get_or_default}
use Rattle.run_log.proofs.Picks.{count_fits}
use Rattle.run_log.proofs.counts.counts_of.Goals as goal

pub overflow_add-index_mut : goal.overflow_add-index_mut
overflow_add-index_mut c =
    let l = c.loop-actor in let order = c.args.order.now in
    let known = c.requires.callers l.actor-index 0 c.loop-actor-test.true in
    let below : c.from.result < length l.counts.items = omega (arith, known, c.from.ensures, l.invariant.each) in
    let fits = count_fits l.counts.items order l.actor-index c.from.result l.invariant.counts below
    l.auto.actor-index-end in
    let same = get_or_default l.counts.items c.from.result c.index_mut.result.now 0 below in
    record { fits = omega (arith, fits, same, c.index_mut.ensures.value, c.loop-actor-test.true) }
