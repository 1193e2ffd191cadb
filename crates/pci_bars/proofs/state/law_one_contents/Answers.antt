use Rattle.byte_fields.proofs.Loaded.{one_spelling}
use Rattle.pci_bars.proofs.StateFormats.{contents_format}
use Rattle.pci_bars.proofs.state.law_one_contents.Goals as goal

pub returns : goal.returns
returns c = record { one = λ cards each. one_spelling (contents_format cards each) }
