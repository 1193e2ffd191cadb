use Rattle.scripts.proofs.Runs.{in_range}
use Rattle.scripts.proofs.read.read_script.Goals as goal

pub returns-clause-in_range : goal.returns-clause-in_range
returns-clause-in_range c =
    in_range _ _ _ _ c.in-Some.ensures.cases.1
    c.read_later.ensures.said
