use Rattle.std.proofs.Common.{take_all, arith}
use Rattle.map_blame.proofs.KeptLemmas.{no_change}
use Rattle.map_blame.proofs.WatchLemmas.{taken_more}
use Rattle.board_prelude.proofs.{registers_after}
use Rattle.map_blame.proofs.watch.changed_regs.Goals as goal

pub loop-change-preserved : goal.loop-change-preserved
unfolding registers_after
loop-change-preserved c = record {
  fitted = c.apply.ensures.fitted;
  after = λ setup start. rw (taken_more c.args.changes.now c.loop-change.change-index no_change c.loop-change-test.true)
      (c.apply.ensures.stands setup _ (c.loop-change.invariant.after setup start));
}

pub returns : goal.returns
returns c = record {
  fitted = c.loop-change.invariant.fitted;
  after = λ setup start.
      rw (take_all c.loop-change.change-index c.args.changes.now (omega (arith, c.loop-change-test.false)))
      at (c.loop-change.invariant.after setup start);
}
