use Rattle.byte_fields.proofs.Loaded.{loads}
use Rattle.pic_pair.proofs.StateFormat.{lines_format}
use Rattle.pic_pair.proofs.lines.Lines.load_state.Goals as goal

pub returns : goal.returns
returns c = record {
  loaded = loads lines_format _ _ _ c.are_bytes.ensures.bytes c.read_state.ensures.took;
}
