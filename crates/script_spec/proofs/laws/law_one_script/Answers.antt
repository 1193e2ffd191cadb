use Rattle.script_spec.proofs.ScriptLaws.{one_script}
use Rattle.script_spec.proofs.laws.law_one_script.Goals as goal

pub returns : goal.returns
returns c = record { one = one_script }
