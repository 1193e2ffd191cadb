use Rattle.script_spec.proofs.LogLaws.{line_says_entry, log_says_all}
use Rattle.script_spec.proofs.laws.law_log_says_all.Goals as goal

pub returns : goal.returns
returns c = record { line = line_says_entry; log = log_says_all }
