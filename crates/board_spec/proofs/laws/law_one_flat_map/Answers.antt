use Rattle.board_spec.proofs.FlatMapLaws.{one_flat_map}
use Rattle.board_spec.proofs.laws.law_one_flat_map.Goals as goal

pub returns : goal.returns
returns c = record { one = one_flat_map }
