use Rattle.std.proofs.Common.{◌∙◌, sym, inl, inr, arith}
use Rattle.machine_records.specs.Strings.{IsAny, writes}
use Rattle.machine_records.proofs.Turns.{one_more, goes_on}
use Rattle.machine_records.proofs.strings.write_all.Goals as goal

pub returns-then-asks_back-clause-done : goal.returns-then-asks_back-clause-done
returns-then-asks_back-clause-done c = record {
  steps =
      one_more _ _ _ _ c.loop-index.index c.loop-index.machine c.loop-index.reply _ _ _ c.loop-index.invariant.steps
      c.loop-index.invariant.goes c.port_record-event.ensures.said
      (c.step-status.ensures.outcome.done c.if-status-ne-OK.false) tt;
  ends = inr (inl (omega arith, sym c.asks_back.ensures.asks ∙ c.if-asks_back.true));
}

pub loop-index-preserved : goal.loop-index-preserved
loop-index-preserved c = record {
  steps =
      one_more _ _ _ _ c.loop-index.index c.loop-index.machine c.loop-index.reply _ _ _ c.loop-index.invariant.steps
      c.loop-index.invariant.goes c.port_record-event.ensures.said
      (c.step-status.ensures.outcome.done c.if-status-ne-OK.false) tt;
  goes = goes_on (writes c.args.port c.args.bytes c.args.values.now) IsAny c.loop-index.index c.step-status.new.reply
      (sym c.asks_back.ensures.asks ∙ c.if-asks_back.false);
}
