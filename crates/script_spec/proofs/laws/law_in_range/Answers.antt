use Rattle.script_spec.proofs.RangeLaws.{scripts_are_in_range}
use Rattle.script_spec.proofs.laws.law_in_range.Goals as goal

pub returns : goal.returns
returns c = record { each = scripts_are_in_range }
