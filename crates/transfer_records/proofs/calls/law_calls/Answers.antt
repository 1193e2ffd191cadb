use Rattle.transfer_records.proofs.Rounds.{calls_come_to_the_transfer}
use Rattle.transfer_records.proofs.calls.law_calls.Goals as goal

pub returns : goal.returns
returns c = record { whole = calls_come_to_the_transfer }
