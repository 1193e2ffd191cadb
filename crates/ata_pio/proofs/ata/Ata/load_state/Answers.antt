use Rattle.byte_fields.proofs.Loaded.{loads_with}
use Rattle.ata_pio.proofs.StateFormats.{disk_format}
use Rattle.ata_pio.proofs.ata.Ata.load_state.Goals as goal

pub returns : goal.returns
returns c = record {
  loaded = loads_with (disk_format _ c.requires.size) _ _ _ c.are_bytes.ensures.bytes c.read_state.ensures.filled;
}
