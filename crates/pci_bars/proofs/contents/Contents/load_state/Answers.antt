use Rattle.byte_fields.proofs.Loaded.{loads_with}
use Rattle.pci_bars.proofs.StateFormats.{contents_format}
use Rattle.pci_bars.proofs.contents.Contents.load_state.Goals as goal

pub returns : goal.returns
returns c = record {
  loaded = loads_with (contents_format _ c.requires.cards) _ _ _ c.are_bytes.ensures.bytes c.read_state.ensures.filled;
}
