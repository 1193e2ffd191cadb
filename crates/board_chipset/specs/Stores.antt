-- What a store holds, and of which board it can be.
use Rattle.std.specs.Prelude.{◌≡◌, length}
use Rattle.board_prelude.specs.{Setup, IsCardList, IsRomSize, installed, Bytes}
use Rattle.pci_bars.specs.Contents.{HaveSizes}
use Rattle.addr_decode.specs.MapRegs.{StandsFor, map_bytes}
use Rattle.board_chipset.specs.declared.store.Store.{Store}

-- a store of a board with this setup and these registers: as many bytes as are installed, a buffer for each base of the
-- cards, and the ROM
pub record IsStoreOf (setup : Setup) (bytes : Bytes) (store : Store) : Type 0 where
  pub cards : IsCardList setup.cards
  pub rom_size : IsRomSize (length setup.rom)
  pub registers : StandsFor setup bytes (map_bytes store.regs)
  pub memory : length store.dram ≡ installed setup
  pub contents : HaveSizes setup store.contents
  pub rom : store.rom.items ≡ setup.rom

-- of some board
abbrev pub IsOfBoard : Store → Type 0
IsOfBoard store = (setup : Setup) × (bytes : Bytes) × IsStoreOf setup bytes store
