-- A map after changes of the registers.
use Rattle.std.specs.Prelude.{◌≡◌, ◌+◌, List, [], ◌∷◌, length}
use Rattle.board_prelude.specs.{MapChange, Setup, Bytes}
use Rattle.pci_bars.specs.Cards.{cards_of}
use Rattle.addr_decode.specs.MapRegs.{StandsFor}
use Rattle.map_builder.specs.Map.{Mapped}
use Rattle.map_builder.specs.Changed.{after}

-- the registers after changes, the newest first, where they held these bytes before
unfoldable pub bytes_after : Setup → List MapChange → Bytes → Bytes
bytes_after setup [] bytes = bytes
bytes_after setup (change ∷ earlier) bytes = after setup change (bytes_after setup earlier bytes)

-- a map is another one after changes, the newest first: it stands for the changed registers of each board for whose
-- registers the other stands, and each change raised the version by one
pub record IsMapAfter (opened : Mapped) (changes : List MapChange) (now : Mapped) : Type 0 where
  pub stands :
      (setup : Setup) (bytes : Bytes) → StandsFor setup bytes opened.regs →
      StandsFor setup (bytes_after setup changes bytes) now.regs
  pub cards : cards_of now.regs.cards ≡ cards_of opened.regs.cards
  pub version : now.version ≡ opened.version + length changes
