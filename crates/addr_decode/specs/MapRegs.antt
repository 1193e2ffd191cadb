-- The registers that the address map depends on.
use Rattle.std.specs.Prelude.{◌≡◌, ℕ, ◌/◌, List}
use Rattle.board_prelude.specs.{One, Reg, Store, changed_byte, Setup, Bytes, ide_command as command_register}
use Rattle.board_prelude.specs.{idetim_high}
use Rattle.host_bridge.specs.Pmc.{IsRowsOf}
use Rattle.host_bridge.specs.Pam.{IsPamOf}
use Rattle.pci_bars.specs.Cards.{CardBytes, AreDecoded}
use Rattle.addr_decode.specs.declared.regs.MapRegs.{MapRegs}
use Rattle.addr_decode.specs.Singles.{AreSinglesOf}

-- what they hold: DRB0 to DRB7 and PAM0 to PAM6 of the host bridge, the registers of one byte each by their
-- numbers, and the cards
pub record MapBytes : Type 0 where
  pub drb : List ℕ
  pub pam : List ℕ
  pub singles : List ℕ
  pub cards : List CardBytes

abbrev pub map_bytes : MapRegs → MapBytes
map_bytes regs = record {
  drb = regs.drb;
  pam = regs.pam;
  singles = regs.singles;
  cards = regs.cards.items;
}

-- the registers of a board after one byte is stored
abbrev pub stored : Setup → Bytes → (at : Reg) → (written : ℕ) → Bytes
stored setup bytes at written = λ reg. changed_byte setup (Store at One written) reg (bytes reg)

-- they agree with the registers of a board in every byte that the address map depends on. The interrupt
-- line of a card is none of these
pub record StandsFor (setup : Setup) (bytes : Bytes) (regs : MapBytes) : Type 0 where
  pub rows : IsRowsOf bytes regs.drb
  pub windows : IsPamOf bytes regs.pam
  pub singles : AreSinglesOf bytes regs.singles
  pub cards : AreDecoded setup bytes regs.cards

-- these are the command and the timing of the IDE function. Of the timing the high byte alone decides
pub record IsChannelOf (bytes : Bytes) (ide_command idetim : ℕ) : Type 0 where
  pub command : ide_command ≡ bytes command_register
  pub timing : idetim / 0x100 ≡ bytes idetim_high
