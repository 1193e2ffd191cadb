use Rattle.std.proofs.Common.{◌∙◌}
use Rattle.board_prelude.proofs.{rom_unselected, unselected_windows}
use Rattle.pci_bars.proofs.ClaimLemmas.{device_is, rom_windows_are, Open, UnselectedRom}
use Rattle.pci_bars.proofs.claims.unselected_rom.Goals as goal

pub returns : goal.returns
unfolding rom_unselected
returns c = record {
  unselected = λ setup bytes are.
      c.first_device.ensures.device
      ∙ device_is setup bytes _ _ c.requires.cards are UnselectedRom Open
      (unselected_windows bytes) (rom_windows_are bytes);
}
