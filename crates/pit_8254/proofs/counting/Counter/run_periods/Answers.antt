use Rattle.pit_8254.proofs.Runs.{part_join}
use Rattle.pit_8254.proofs.counting.Counter.run_periods.Goals as goal

pub returns-clause-part : goal.returns-clause-part
returns-clause-part g c =
    part_join (part_join c.run_to_period-run.ensures.part c.pass_periods-run.ensures.part)
    c.run_in_period.ensures.part
