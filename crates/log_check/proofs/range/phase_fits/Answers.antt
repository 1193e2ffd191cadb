use Rattle.std.proofs.lemmas.List.{take_all}
use Rattle.std.proofs.lemmas.List.Elements.{All-more}
use Rattle.log_check.specs.Phases.{IsTyped}
use Rattle.log_check.proofs.range.phase_fits.Goals as goal

pub loop-statement-preserved : goal.loop-statement-preserved
loop-statement-preserved c =
    All-more IsTyped c.args.phase.now c.loop-statement.statement-index _ c.loop-statement-test.true
    c.loop-statement.invariant c.fits.ensures.typed

pub returns : goal.returns
returns c = record {
  typed = rw (take_all c.loop-statement.statement-index c.args.phase.now c.loop-statement-test.false) at
      c.loop-statement.invariant;
}
