-- The ranges of a map as they are built, from the first address on: the last of them may still go on.
use Rattle.std.specs.Prelude.{ℕ, ◌≡◌, ◌+◌, ◌-◌, ◌<◌, ◌≤◌, List, [], ◌∷◌, ◌++◌, length, map, All}
use Rattle.board_prelude.specs.{Setup, Bytes, address_count, MapRange, six_areas, Tiles, NeighboursDiffer, IsRight}
use Rattle.board_prelude.specs.{IsFlatMapOf, AllByRecursion}
use Rattle.addr_decode.specs.MapRegs.{MapBytes, StandsFor}
use Rattle.addr_decode.specs.Edges.{edges_after}
use Rattle.map_builder.specs.declared.range.Changed.{Changed}
use Rattle.map_builder.specs.declared.range.Range.{Range}
pub use Rattle.map_builder.specs.Ranges.{ContinuesAt}
use Rattle.map_builder.specs.Map.{range_of, most_ranges, IsOfSomeBoard}
use Rattle.map_builder.specs.Changed.{IsOutside}

-- the ranges cover all addresses as if the last of them went on to the last address
pub record Built (ranges : List MapRange) (last : MapRange) (addr : ℕ) : Type 0 where
  pub tiles : Tiles 0 (ranges ++ last ∷ [])
  pub least : NeighboursDiffer (ranges ++ last ∷ [])
  pub begun : last.lo ≤ addr
  pub open_end : last.hi ≡ address_count - 1

-- up to this address they are right
pub record BuiltOf (setup : Setup) (bytes : Bytes) (ranges : List MapRange) (last : MapRange) (addr : ℕ) : Type 0 where
  pub right : All (IsRight setup bytes) ranges
  pub so_far : (x : ℕ) → last.lo ≤ x → x ≤ addr → six_areas setup bytes x ≡ last.areas

-- up to this address they are those of every board that has these registers, and leave room for a range at each edge
-- that is still to come
pub record IsBuilt (regs : MapBytes) (ranges : List MapRange) (last : MapRange) (addr : ℕ) : Type 0 where
  pub built : Built ranges last addr
  pub of_board : (setup : Setup) (bytes : Bytes) → StandsFor setup bytes regs → BuiltOf setup bytes ranges last addr
  pub few : (board : IsOfSomeBoard regs) → length ranges + edges_after board.setup board.bytes addr < most_ranges

-- ---- ranges that were those of a map before a change

-- of these addresses each that lies in the range has its areas
pub record IsRightWhere (setup : Setup) (bytes : Bytes) (Where : ℕ → Type 0) (range : MapRange) : Type 0 where
  pub at_each : (addr : ℕ) → range.lo ≤ addr → addr ≤ range.hi → Where addr → six_areas setup bytes addr ≡ range.areas

-- they are a map of other registers, which agrees with the map of these at some addresses
pub record IsMapWhere (regs : MapBytes) (Where : ℕ → Type 0) (ranges : List MapRange) : Type 0 where
  pub tiles : Tiles 0 ranges
  pub least : NeighboursDiffer ranges
  pub right : (setup : Setup) (bytes : Bytes) → StandsFor setup bytes regs → All (IsRightWhere setup bytes Where) ranges

abbrev pub IsBelow : ℕ → ℕ → Type 0
IsBelow end addr = addr < end

-- after an address, and up to another
abbrev pub IsBetween : ℕ → ℕ → ℕ → Type 0
IsBetween after last addr = (after < addr) × (addr ≤ last)

-- outside each of some windows
abbrev pub IsBeside : List Changed → ℕ → Type 0
IsBeside windows addr = AllByRecursion (IsOutside addr) windows

-- the ranges of a board are built up to an address, and another map agrees with the board's after it up to another
pub record IsBuiltUpTo (ranges : List MapRange) (last : MapRange) (before : List MapRange) (after until : ℕ) : Type 0
  where
    pub regs : MapBytes
    pub board : IsOfSomeBoard regs
    pub built : IsBuilt regs ranges last after
    pub agrees : IsMapWhere regs (IsBetween after until) before

-- the ranges are the map of every board that has these registers
pub record IsWhole (regs : MapBytes) (ranges : List Range) : Type 0 where
  pub tiles : Tiles 0 (map range_of ranges)
  pub is_map : (setup : Setup) (bytes : Bytes) → StandsFor setup bytes regs →
      IsFlatMapOf setup bytes (map range_of ranges)
  pub few : length ranges ≤ most_ranges
