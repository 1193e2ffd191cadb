-- The store that a transfer works on, and the definition of a transfer over its bytes.
use Rattle.std.specs.Prelude.{ℕ, ◌≡◌, Bool, false, length}
use Rattle.board_prelude.specs.{Kind, Area, sectors_of, Setup, Bytes, is_smram_range, Cell, DramCell, CardCell}
use Rattle.dram_store.specs.Dram.{dram_at}
use Rattle.pci_bars.specs.Contents.{IsBaseNumber, held, held_byte}
use Rattle.addr_decode.specs.MapRegs.{map_bytes}
use Rattle.addr_decode.specs.Master.{master_area}
use Rattle.board_chipset.specs.declared.store.Store.{Store}
use Rattle.board_chipset.specs.Stores.{IsStoreOf}
use Rattle.bus_master.specs.Cells.{Cells}
use Rattle.bus_master.specs.Registers.{Master}
use Rattle.bus_master.specs.Transfer.{Moving, transferred, medium_of, with_medium}

-- the bytes of a store
abbrev pub cells_of : Store → Cells
cells_of store (DramCell addr) = dram_at store.dram addr
cells_of store (CardCell dev base off) = held_byte store.contents dev base off

-- a byte that there can be: a card is at one of the devices 2 to 9, and has the base numbers 0 to 7
abbrev pub IsCell : Cell → Type 0
IsCell (DramCell addr) = Unit {0}
IsCell (CardCell dev base off) = IsBaseNumber dev base

-- of some board that can have this store an access of the bus master reaches this area
pub record IsReached (store : Store) (area : Area) (addr : ℕ) (kind : Kind) : Type 0 where
  pub setup : Setup
  pub bytes : Bytes
  pub of : IsStoreOf setup bytes store
  pub reached : area ≡ master_area setup bytes addr kind

-- the registers, the ROM and the drive are as before, and there are as many bytes and sectors
pub record HasSameShape (old new : Store) : Type 0 where
  pub regs : new.regs ≡ old.regs
  pub rom : new.rom ≡ old.rom
  pub memory : length new.dram ≡ length old.dram
  pub contents : (dev base : ℕ) → length (held new.contents dev base) ≡ length (held old.contents dev base)
  pub drive : new.disk ≡ with_medium old.disk (medium_of new.disk)
  pub sectors : sectors_of (medium_of new.disk) ≡ sectors_of (medium_of old.disk)

-- a transfer from or to a store
abbrev pub transfer_of : Setup → Bytes → Master → (lba count : ℕ) → Store → Moving
transfer_of setup bytes master lba count store =
    transferred setup bytes master lba count (cells_of store) (medium_of store.disk)

-- ---- SMRAM

-- a byte of DRAM in the range of SMRAM, A0000h to BFFFFh
abbrev pub is_in_smram : Cell → Bool
is_in_smram (DramCell addr) = is_smram_range addr
is_in_smram (CardCell dev base off) = false

-- two stores that differ in it alone
pub record DiffersInSmramAlone (store other : Store) : Type 0 where
  pub regs : map_bytes other.regs ≡ map_bytes store.regs
  pub rom : other.rom.items ≡ store.rom.items
  pub memory : length other.dram ≡ length store.dram
  pub dram : (addr : ℕ) → is_smram_range addr ≡ false → dram_at other.dram addr ≡ dram_at store.dram addr
  pub contents : other.contents ≡ store.contents
  pub disk : other.disk ≡ store.disk
