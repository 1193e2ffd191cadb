use Rattle.board_prelude.proofs.{common_steps, nat_tests}
use Rattle.std.proofs.Common.{arith}
use Rattle.scripts.proofs.BaseRuns.{base_read, base_added, base_refused}
use Rattle.scripts.proofs.valid.valid_bases.Goals as goal

pub returns-in_err-valid_base : goal.returns-in_err-valid_base
returns-in_err-valid_base c = grind (arith, nat_tests, common_steps, base_refused)

pub loop-field-preserved : goal.loop-field-preserved
loop-field-preserved c = record {
  count = omega (arith, c.push.ensures.len, c.loop-field.invariant.count);
  each = base_read _ _ _ c.loop-field-test.true _ c.in_ok-valid_base.ensures.base c.loop-field.invariant.each;
  same = base_added _ _ _ c.loop-field-test.true _
      c.in_ok-valid_base.ensures.base _ _ c.push.ensures.items c.loop-field.invariant.same;
}
