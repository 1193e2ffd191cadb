use Rattle.std.proofs.Common.{arith}
use Rattle.scripts.proofs.Runs.{run_more}
use Rattle.scripts.proofs.read.read_later.Goals as goal

pub loop-line-preserved : goal.loop-line-preserved
loop-line-preserved c = record {
  fits = omega (arith, c.loop-line.invariant.fits, c.in-Some.ensures.shorter);
  run = run_more _ _ _ _
      _ _ _ _ c.in-Some.ensures.cases c.loop-line.invariant.run c.in_ok-read_next.ensures.read;
}
