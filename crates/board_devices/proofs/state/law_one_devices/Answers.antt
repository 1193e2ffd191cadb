use Rattle.byte_fields.proofs.Loaded.{one_spelling}
use Rattle.board_devices.proofs.StateFormat.{devices_format}
use Rattle.board_devices.proofs.state.law_one_devices.Goals as goal

pub returns : goal.returns
returns c = record { one = λ fitted is. one_spelling (devices_format fitted is) }
