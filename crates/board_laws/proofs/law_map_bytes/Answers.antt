use Rattle.board_spec.proofs.MapByteLaws.{map_bytes_decide}
use Rattle.board_laws.proofs.law_map_bytes.Goals as goal

pub returns : goal.returns
returns c = record { decided = map_bytes_decide }
