use Rattle.pit_8254.proofs.Runs.{part_join}
use Rattle.pit_8254.proofs.counting.Counter.run_past_strobe.Goals as goal

pub returns-clause-part : goal.returns-clause-part
returns-clause-part g c =
    part_join (part_join c.advance-run.ensures.part c.advance-run-2.ensures.part) c.skip.ensures.part
