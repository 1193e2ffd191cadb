use Rattle.byte_fields.proofs.Loaded.{one_spelling}
use Rattle.pic_pair.proofs.StateFormat.{pair_format}
use Rattle.pic_pair.proofs.state.law_one_pair.Goals as goal

pub returns : goal.returns
returns c = record { one = one_spelling pair_format }
