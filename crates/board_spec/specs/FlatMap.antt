-- The flat map and its spans, said of all addresses: the memory map as one list of ranges.
use Rattle.std.specs.Prelude.{ℕ, ◌≡◌, ◌≢◌, ◌+◌, ◌-◌, ◌<◌, ◌≤◌, ◌⊎◌, Bool, true, false, List, [], ◌∷◌, All}
use Rattle.board_base.specs.declared.access.Kind.{Kind}
use Rattle.board_base.specs.declared.access.Kind.TheVariants.{Fetch, Read, Write}
use Rattle.board_base.specs.declared.target.Area.{Area}
use Rattle.board_spec.specs.Setup.{Setup}
use Rattle.board_spec.specs.Decode.{Bytes, area_of}

-- how many addresses there are
abbrev pub address_count : ℕ
address_count = 0x1_0000_0000

-- the six areas of an address: of a fetch, a read and a write outside SMM, and then of these in SMM
abbrev pub six_areas : Setup → Bytes → ℕ → List Area
six_areas setup bytes addr =
    area_of setup bytes addr Fetch false
    ∷ area_of setup bytes addr Read false
    ∷ area_of setup bytes addr Write false
    ∷ area_of setup bytes addr Fetch true
    ∷ area_of setup bytes addr Read true
    ∷ area_of setup bytes addr Write true
    ∷ []

-- a range of the map: first and last address, and the six areas of each of its addresses
pub record MapRange : Type 0 where
  pub lo : ℕ
  pub hi : ℕ
  pub areas : List Area

-- the ranges follow one another without gap or overlap, from an address to the last one
abbrev pub Tiles : ℕ → List MapRange → Type 0
Tiles from [] = from ≡ address_count
Tiles from (range ∷ later) = (range.lo ≡ from) × (range.lo ≤ range.hi) × Tiles (range.hi + 1) later

-- no two neighbours have equal areas
abbrev pub Differs : MapRange → List MapRange → Type 0
Differs range [] = Unit {0}
Differs range (next ∷ later) = range.areas ≢ next.areas

abbrev pub NeighboursDiffer : List MapRange → Type 0
NeighboursDiffer [] = Unit {0}
NeighboursDiffer (range ∷ later) = Differs range later × NeighboursDiffer later

-- each address of the range has its areas
pub record IsRight (setup : Setup) (bytes : Bytes) (range : MapRange) : Type 0 where
  pub at_each : (addr : ℕ) → range.lo ≤ addr → addr ≤ range.hi → six_areas setup bytes addr ≡ range.areas

-- the flat map of some registers. There is exactly one (`law_one_flat_map`)
pub record IsFlatMapOf (setup : Setup) (bytes : Bytes) (ranges : List MapRange) : Type 0 where
  pub tiles : Tiles 0 ranges
  pub right : All (IsRight setup bytes) ranges
  pub least : NeighboursDiffer ranges

-- the longest interval of addresses round one in which this kind of access has one area
pub record IsSpan (setup : Setup) (bytes : Bytes) (addr : ℕ) (kind : Kind) (smm : Bool) (lo hi : ℕ)
    (area : Area) : Type 0 where
  pub above : lo ≤ addr
  pub below : addr ≤ hi
  pub last : hi < address_count
  pub same : (x : ℕ) → lo ≤ x → x ≤ hi → area_of setup bytes x kind smm ≡ area
  pub begins : (lo ≡ 0) ⊎ (area_of setup bytes (lo - 1) kind smm ≢ area)
  pub ends : (hi + 1 ≡ address_count) ⊎ (area_of setup bytes (hi + 1) kind smm ≢ area)
