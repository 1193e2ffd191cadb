use Rattle.std.proofs.Common.{refl}
use Rattle.pit_8254.proofs.Periods.{part_periods}
use Rattle.pit_8254.proofs.counting.Counter.pass_periods.Goals as goal

pub returns-clause-part : goal.returns-clause-part
returns-clause-part c =
    part_periods _ _ c.args.run _ c.requires.at_period (rw (← c.self.view_is) refl) (rw (← c.self.view_is) refl)
