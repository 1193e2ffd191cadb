use Rattle.std.proofs.Common.{take, All}
use Rattle.log_check.specs.Phases.{IsTyped}
use Rattle.log_check.proofs.range.phase_fits.Given as goal

abbrev pub invariant-loop-statement : goal.invariant-loop-statement
invariant-loop-statement l = All IsTyped (take l.statement-index l.phase)
