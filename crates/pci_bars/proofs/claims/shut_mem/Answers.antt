use Rattle.std.proofs.Common.{◌∙◌, refl}
use Rattle.board_prelude.proofs.{memory_shut, memory_windows}
use Rattle.pci_bars.proofs.ClaimLemmas.{device_is, Shut, Memory}
use Rattle.pci_bars.proofs.claims.shut_mem.Goals as goal

pub returns : goal.returns
unfolding memory_shut
returns c = record {
  shut = λ setup bytes are.
      c.first_device.ensures.device
      ∙ device_is setup bytes _ _ c.requires.cards are Memory Shut (memory_windows bytes) (λ card. refl);
}
