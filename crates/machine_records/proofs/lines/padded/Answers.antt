use Rattle.std.proofs.Common.{arith}
use Rattle.machine_records.proofs.Filled.{filled_all}
use Rattle.machine_records.proofs.lines.padded.Goals as goal

pub returns : goal.returns
returns c = record {
  padded =
      filled_all _ _ _ _ c.requires.few (omega (arith, c.loop-index-test.false, c.loop-index.auto.index-end))
      c.loop-index.invariant.front c.loop-index.invariant.rest;
}
