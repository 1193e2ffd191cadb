use Rattle.device_spec.proofs.PairLaws.{same-levels}
use Rattle.device_spec.proofs.laws.same_levels_again.Goals as goal

pub returns : goal.returns
returns c = same-levels
