use Rattle.std.proofs.Common.{refl, arith}
use Rattle.pit_8254.proofs.Runs.{part_quiet}
use Rattle.pit_8254.proofs.counting.Counter.skip.Goals as goal

pub returns-clause-part : goal.returns-clause-part
returns-clause-part c =
    part_quiet _ _ _ c.args.run _ _ (omega arith) (omega arith) c.pass_quietly.ensures.state refl refl
