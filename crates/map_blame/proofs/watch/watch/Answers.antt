use Rattle.board_prelude.proofs.{take_all, registers_after, length-take-le, length-reverse}
use Rattle.std.proofs.Common.{◌<◌, length, get_or, ◌∙◌, arith, take, reverse}
use Rattle.map_blame.proofs.KeptLemmas.{no_change}
use Rattle.map_blame.proofs.WatchLemmas.{taken_more, holds_change}
use Rattle.map_blame.proofs.watch.watch.Goals as goal

pub loop-index-preserved : goal.loop-index-preserved
unfolding registers_after
loop-index-preserved c =
    let index = c.loop-index.index in
    let before = reverse (take index c.args.changes.now) in
    let change = get_or c.args.changes.now index no_change in
    let long = length-reverse (take index c.args.changes.now) ∙ length-take-le index c.args.changes.now (omega arith) in
    let more = taken_more c.args.changes.now index no_change c.loop-index-test.true in
    record {
      count = c.look_again.ensures.length ∙ c.loop-index.invariant.count;
      ranges = λ k d within.
          let known : k < length c.loop-index.watched = omega (arith, within, c.loop-index.invariant.count) in
          (c.look_again.ensures.next k d known).range ∙ c.loop-index.invariant.ranges k d within;
      after = λ setup start.
          rw more (c.apply-bounds.ensures.applied.stands setup _ (c.loop-index.invariant.after setup start));
      watched = λ setup cards start all k d within.
          let known : k < length c.loop-index.watched = omega (arith, within, c.look_again.ensures.length) in
          let after = c.loop-index.invariant.after setup start in
          rw more
          ((c.look_again.ensures.next k d known).watched setup before change
          (omega (arith, long)) (c.apply-bounds.ensures.applied.stands setup _ after)
          (holds_change setup before change c.apply-bounds.result cards
          (c.apply-bounds.ensures.applied.changed setup (registers_after setup before) after))
          (c.loop-index.invariant.watched setup cards start all k d known));
    }

pub returns-clause-ranges : goal.returns-clause-ranges
returns-clause-ranges c = c.loop-index.invariant.ranges

pub returns-clause-watched : goal.returns-clause-watched
returns-clause-watched c = λ setup cards start all.
    rw (take_all c.loop-index.index c.args.changes.now c.loop-index-test.false)
    at (c.loop-index.invariant.watched setup cards start all)
