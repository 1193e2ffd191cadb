use Rattle.machine_records.proofs.ReadBack.{read_back}
use Rattle.machine_records.proofs.laws.law_read_back.Goals as goal

pub returns : goal.returns
returns c = record { back = read_back }
