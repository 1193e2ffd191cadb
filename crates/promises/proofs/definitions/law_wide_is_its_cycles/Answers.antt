use Rattle.promises.proofs.Cycles.{wide_is_its_cycles}
use Rattle.promises.proofs.definitions.law_wide_is_its_cycles.Goals as goal

pub returns : goal.returns
returns c = record { cycles = wide_is_its_cycles c.law_parts.ensures.cut }
