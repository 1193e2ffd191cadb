use Rattle.byte_fields.proofs.Loaded.{one_spelling}
use Rattle.pic_pair.proofs.StateFormat.{lines_format}
use Rattle.pic_pair.proofs.state.law_one_lines.Goals as goal

pub returns : goal.returns
returns c = record { one = one_spelling lines_format }
