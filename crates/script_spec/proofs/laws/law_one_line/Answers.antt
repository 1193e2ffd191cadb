use Rattle.script_spec.proofs.CheckLaws.{one_bad_log, one_difference}
use Rattle.script_spec.proofs.laws.law_one_line.Goals as goal

pub returns : goal.returns
returns c = record { log = one_bad_log; script = one_difference }
