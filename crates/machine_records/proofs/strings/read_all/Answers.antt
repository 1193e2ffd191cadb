use Rattle.std.proofs.Common.{◌%◌, ◌^◌, ◌∙◌, sym, inl, inr, arith, get_or-set_same, length-set}
use Rattle.machine_records.proofs.Filled.{rest_more}
use Rattle.machine_records.specs.Strings.{IsValue, reads}
use Rattle.machine_records.proofs.Turns.{values_kept, one_more, goes_on}
use Rattle.machine_records.proofs.strings.read_all.Goals as goal

pub returns-then-asks_back-clause-done : goal.returns-then-asks_back-clause-done
returns-then-asks_back-clause-done c =
    let index = c.loop-index.index in
    let value = c.step-status.new.reply.value % 2 ^ 32 in
    record {
      steps =
          one_more _ _ _ _ index c.loop-index.machine c.loop-index.reply _ _ _
          (values_kept c.args.port c.args.bytes c.loop-index.values index value _ _ index _ _
          (omega arith) c.loop-index.invariant.steps)
          c.loop-index.invariant.goes c.port_record-event.ensures.said
          (c.step-status.ensures.outcome.done c.if-status-ne-OK.false)
          (get_or-set_same c.loop-index.values index value 0
          (omega (arith, c.loop-index-test.true, c.loop-index.invariant.size)));
      ends = inr (inl (omega arith, sym c.asks_back.ensures.asks ∙ c.if-asks_back.true));
    }

pub loop-index-preserved : goal.loop-index-preserved
loop-index-preserved c =
    let index = c.loop-index.index in
    let value = c.step-status.new.reply.value % 2 ^ 32 in
    record {
      steps =
          one_more _ _ _ _ index c.loop-index.machine c.loop-index.reply _ _ _
          (values_kept c.args.port c.args.bytes c.loop-index.values index value _ _ index _ _
          (omega arith) c.loop-index.invariant.steps)
          c.loop-index.invariant.goes c.port_record-event.ensures.said
          (c.step-status.ensures.outcome.done c.if-status-ne-OK.false)
          (get_or-set_same c.loop-index.values index value 0
          (omega (arith, c.loop-index-test.true, c.loop-index.invariant.size)));
      goes = goes_on (reads c.args.port c.args.bytes) (IsValue c.loop-index.values) index c.step-status.new.reply
          (sym c.asks_back.ensures.asks ∙ c.if-asks_back.false);
      size = length-set c.loop-index.values index value ∙ c.loop-index.invariant.size;
      rest = rest_more c.loop-index.values c.args.values.now index value c.loop-index.invariant.rest;
    }
