-- What a store to the boundaries of the rows of DRAM moves: addresses between an old boundary and a new one.
use Rattle.std.specs.Prelude.{ℕ, ◌≡◌, ◌*◌, ◌<◌, ◌≤◌, ◌⊎◌, nat_lt, Bool, true, false, ◌&&◌, List, length, slice_index}
use Rattle.std.specs.Prelude.{Option, Some}
use Rattle.board_prelude.specs.{AllByRecursion, list_all, list_any, boundary_unit, largest_top}
use Rattle.addr_decode.specs.declared.register.MapRegister.{MapRegister}
use Rattle.addr_decode.specs.declared.register.MapRegister.TheVariants.{RowBoundary}
use Rattle.map_builder.specs.declared.range.Changed.{Changed}
use Rattle.map_builder.specs.Changed.{IsOutside}

-- by the names of the registers that a change covers: some are boundaries of rows, and all are
abbrev pub is_row_name : Option MapRegister → Bool
is_row_name (Some (RowBoundary row)) = true
is_row_name _ = false

abbrev pub stores_rows : List (Option MapRegister) → Bool
stores_rows names = list_any is_row_name names && list_all is_row_name names

-- an address lies below the boundary of a row, where the registers of the boundaries hold these bytes
abbrev pub is_below : (boundaries : List ℕ) → (addr row : ℕ) → Bool
is_below boundaries addr row = nat_lt addr (slice_index boundaries row * boundary_unit)

-- an address lies below the boundary of an earlier row, by the old boundaries and by the new ones
pub record IsHidden (old new : List ℕ) (addr row : ℕ) : Type 0 where
  pub earlier : ℕ
  pub before : earlier < row
  pub old_below : is_below old addr earlier ≡ true
  pub new_below : is_below new addr earlier ≡ true

-- it stays on its side of the boundary of a row, or the row does not count there
abbrev pub StaysOrHidden : (old new : List ℕ) → (addr row : ℕ) → Type 0
StaysOrHidden old new addr row = (is_below new addr row ≡ is_below old addr row) ⊎ IsHidden old new addr row

-- below the top of DRAM, which is the boundary of the last row, this holds for each row, and the top stays on its side
pub record RowStays (old new : List ℕ) (addr : ℕ) : Type 0 where
  pub top : is_below new addr 7 ≡ is_below old addr 7
  pub each : is_below old addr 7 ≡ true → (row : ℕ) → row < 7 → StaysOrHidden old new addr row

-- a window that a row can have
abbrev pub IsInRows : Changed → Type 0
IsInRows window = (window.lo ≤ window.hi) × (window.hi < largest_top)

-- at most one window, outside of which each address keeps its row
pub record AreMoved (old new : List ℕ) (windows : List Changed) : Type 0 where
  pub one : length windows ≤ 1
  pub each : AllByRecursion IsInRows windows
  pub beside : (addr : ℕ) → AllByRecursion (IsOutside addr) windows → RowStays old new addr
