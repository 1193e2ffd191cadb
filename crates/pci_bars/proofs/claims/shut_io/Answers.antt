use Rattle.std.proofs.Common.{◌∙◌}
use Rattle.board_prelude.proofs.{io_shut, io_windows}
use Rattle.pci_bars.proofs.ClaimLemmas.{device_is, io_windows_are, Shut, Ports}
use Rattle.pci_bars.proofs.claims.shut_io.Goals as goal

pub returns : goal.returns
unfolding io_shut
returns c = record {
  shut = λ setup bytes are.
      rw c.from.ensures at c.first_device.ensures.device
      ∙ device_is setup bytes _ _ c.requires.cards are Ports Shut (io_windows bytes) (io_windows_are bytes);
}
