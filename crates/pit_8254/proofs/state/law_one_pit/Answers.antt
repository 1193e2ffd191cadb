use Rattle.byte_fields.proofs.Loaded.{one_spelling}
use Rattle.pit_8254.proofs.StateFormat.{pit_format}
use Rattle.pit_8254.proofs.state.law_one_pit.Goals as goal

pub returns : goal.returns
returns c = record { one = one_spelling pit_format }
