use Rattle.std.proofs.Common.{◌∙◌, arith, length-set, get_or-set_other}
use Rattle.map_blame.specs.Watch.{IsWatchedOn}
use Rattle.map_blame.proofs.WatchLemmas.{all_set, no_watched}
use Rattle.map_blame.proofs.watch.look_again.Goals as goal

pub loop-one-preserved : goal.loop-one-preserved
loop-one-preserved c = record {
  count = length-set c.loop-one.watched c.loop-one.one-index c.after.result ∙ c.loop-one.invariant.count;
  done = all_set (IsWatchedOn c.args.map.now c.args.bounds c.args.number) c.args.watched.now c.loop-one.watched
      c.loop-one.one-index
      c.after.result no_watched c.loop-one.invariant.count (omega (arith, c.loop-one.invariant.count))
      c.loop-one.invariant.done c.loop-one.invariant.rest c.after.ensures.next;
  rest = λ k d from. get_or-set_other c.loop-one.watched c.loop-one.one-index k c.after.result d (omega (arith, from)) ∙
      c.loop-one.invariant.rest k d (omega (arith, from));
}
