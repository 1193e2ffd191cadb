-- The memory map as the crate keeps it: the registers, the ranges and the version.
use Rattle.std.specs.Prelude.{ℕ, ◌+◌, ◌%◌, ◌^◌, ◌<◌, ◌≤◌, List, length, All, slice_index}
use Rattle.board_prelude.specs.{Setup, IsCardList, largest_top, Bytes, top_of, MapRange, Tiles, IsFlatMapOf}
use Rattle.pci_bars.specs.Cards.{CardBytes, AreFitted}
use Rattle.addr_decode.specs.Edges.{most_edges}
use Rattle.addr_decode.specs.MapRegs.{MapBytes, StandsFor}
use Rattle.map_builder.specs.declared.range.Changed.{Changed}
pub use Rattle.map_builder.specs.Ranges.{range_of}

-- the registers that the map depends on, its ranges, how many changes it has had, modulo 2^32, and the windows that the
-- last of them changed
pub record Mapped : Type 0 where
  pub regs : MapBytes
  pub ranges : List MapRange
  pub version : ℕ
  pub changed : List Changed

-- the version after one more change
abbrev pub next_version : ℕ → ℕ
next_version version = (version + 1) % 2 ^ 32

-- some board has these registers. The last boundary register is a byte, so that its DRAM ends at most at 255 times 8
-- MiB
pub record IsOfSomeBoard (regs : MapBytes) : Type 0 where
  pub setup : Setup
  pub bytes : Bytes
  pub cards : IsCardList setup.cards
  pub top : top_of bytes ≤ largest_top
  pub stands : StandsFor setup bytes regs

-- a range begins at the first address, and one at each edge
abbrev pub most_ranges : ℕ
most_ranges = most_edges + 1

-- the ranges are the flat map of every board that has these registers, and cover all addresses
pub record IsMapOf (regs : MapBytes) (ranges : List MapRange) : Type 0 where
  pub fitted : AreFitted regs.cards
  pub board : IsOfSomeBoard regs
  pub tiles : Tiles 0 ranges
  pub map : (setup : Setup) (bytes : Bytes) → StandsFor setup bytes regs → IsFlatMapOf setup bytes ranges
  pub few : length ranges ≤ most_ranges

-- the base registers of a card and that of its expansion ROM hold doublewords
pub record HoldsDoublewords (card : CardBytes) : Type 0 where
  pub bases : (k : ℕ) → slice_index card.bases k < 2 ^ 32
  pub rom : card.rom < 2 ^ 32

-- the registers are as wide as their types say, and there are at most eight cards
pub record HaveWidths (regs : MapBytes) : Type 0 where
  pub rows : (row : ℕ) → slice_index regs.drb row < 2 ^ 8
  pub count : length regs.cards ≤ 8
  pub cards : All HoldsDoublewords regs.cards
