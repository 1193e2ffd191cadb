use Rattle.byte_fields.proofs.Loaded.{loads}
use Rattle.config_regs.proofs.StateFormat.{south_format}
use Rattle.config_regs.proofs.south.South.load_state.Goals as goal

pub returns : goal.returns
returns c = record {
  loaded = loads south_format _ _ _ c.are_bytes.ensures.bytes c.read_state.ensures.took;
}
