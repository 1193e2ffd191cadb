use Rattle.command_files.proofs.OneStatus.{one_status}
use Rattle.command_files.proofs.laws.law_one_status.Goals as goal

pub returns : goal.returns
returns c = record { one = one_status c.law_one_spelling.ensures.spelling }
