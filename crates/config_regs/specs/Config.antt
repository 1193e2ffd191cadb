-- The registers in configuration space, among the register bytes of a board.
use Rattle.std.specs.Prelude.{ℕ, ◌≡◌}
use Rattle.board_prelude.specs.{Setup, bridge, isa, reset_byte, Bytes}
use Rattle.host_bridge.specs.Pmc.{IsFixedOffset}
use Rattle.south_bridge.specs.Routes.{AreRoutesIn}
use Rattle.south_bridge.specs.SelectNames.{IsIdeOf, IsIsaFixed}
use Rattle.pci_bars.specs.Cards.{AreCardsOf}
use Rattle.addr_decode.specs.MapRegs.{MapBytes, StandsFor}
use Rattle.config_regs.specs.declared.south.South.{South}

-- these are the registers of the 82371SB on which the memory map does not depend
pub record IsSouthOf (bytes : Bytes) (south : South) : Type 0 where
  pub routes : AreRoutesIn bytes south.routes
  pub ide : IsIdeOf bytes south.ide

-- these are all that are kept: those of the map, the cards with their interrupt lines, and those of the 82371SB
pub record AreKeptOf (setup : Setup) (bytes : Bytes) (regs : MapBytes) (beside : South) : Type 0 where
  pub map : StandsFor setup bytes regs
  pub cards : AreCardsOf setup bytes regs.cards
  pub south : IsSouthOf bytes beside

-- the registers that are not kept, since nothing changes them, are as a reset leaves them
pub record HasFixed (setup : Setup) (bytes : Bytes) : Type 0 where
  pub bridge_bytes : (off : ℕ) → IsFixedOffset off → bytes (bridge off) ≡ reset_byte setup (bridge off)
  pub isa_bytes : (off : ℕ) → IsIsaFixed off → bytes (isa off) ≡ reset_byte setup (isa off)
