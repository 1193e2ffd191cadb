-- The ranges of a map by their indices.
use Rattle.std.specs.Prelude.{ℕ, ◌≡◌, ◌≢◌, ◌+◌, ◌-◌, ◌≤◌, ◌<◌, ◌⊎◌, List, [], slice_index_or, length}
use Rattle.board_base.specs.declared.target.Area.{Area}
use Rattle.board_base.specs.declared.target.Area.TheVariants.{Dram}
use Rattle.map_builder.specs.declared.range.Range.{Range}

-- the range at an index, and one without areas past the last
abbrev pub no_range : Range
no_range = record { lo = 0; hi = 0; row = record { areas = [] } }

abbrev pub range_at : List Range → ℕ → Range
range_at ranges k = slice_index_or ranges k no_range

-- the area of a row in a column, 0 to 5
abbrev pub in_column : ℕ → List Area → Area
in_column column areas = slice_index_or areas column (Dram 0)

-- the area in a column of the range at an index
abbrev pub area_at : List Range → ℕ → ℕ → Area
area_at ranges column k = in_column column (range_at ranges k).row.areas

-- an address lies in the range at an index
pub record Holds (ranges : List Range) (k addr : ℕ) : Type 0 where
  pub within : k < length ranges
  pub above : (range_at ranges k).lo ≤ addr
  pub below : addr ≤ (range_at ranges k).hi

-- the range at an index begins at an address or below it
pub record BeginsBelow (ranges : List Range) (k addr : ℕ) : Type 0 where
  pub within : k < length ranges
  pub above : (range_at ranges k).lo ≤ addr

-- the least index from which on up to another the ranges have its area in a column
pub record IsFirstAlike (ranges : List Range) (column index first : ℕ) : Type 0 where
  pub below : first ≤ index
  pub alike : (k : ℕ) → first ≤ k → k ≤ index → area_at ranges column k ≡ area_at ranges column index
  pub begins : (first ≡ 0) ⊎ (area_at ranges column (first - 1) ≢ area_at ranges column index)

-- the greatest index up to which from another on the ranges have its area in a column
pub record IsLastAlike (ranges : List Range) (column index last : ℕ) : Type 0 where
  pub above : index ≤ last
  pub within : last < length ranges
  pub alike : (k : ℕ) → index ≤ k → k ≤ last → area_at ranges column k ≡ area_at ranges column index
  pub ends : (last + 1 ≡ length ranges) ⊎ (area_at ranges column (last + 1) ≢ area_at ranges column index)
