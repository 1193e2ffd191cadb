-- Windows in rising order, and how many rows are looked up in them.
use Rattle.std.specs.Prelude.{ℕ, ◌+◌, ◌-◌, ◌<◌, ◌≤◌, List, [], ◌∷◌}
use Rattle.std.specs.List.{AllByRecursion}
use Rattle.map_builder.specs.declared.range.Changed.{Changed}
unfoldable pub use Rattle.map_builder.specs.Windows.{with_window, sorted}

-- windows lie above an address
abbrev pub AreAbove : ℕ → List Changed → Type 0
AreAbove addr windows = AllByRecursion (λ window. addr < window.lo) windows

-- they rise and do not overlap
abbrev pub Rise : List Changed → Type 0
Rise [] = Unit {0}
Rise (window ∷ later) = (window.lo ≤ window.hi) × AreAbove window.hi later × Rise later

-- how many rows are looked up in them: one for each window, and one for each edge in it above its first address, where
-- so many edges lie above an address
abbrev pub rows_in : (edges_above : ℕ → ℕ) → List Changed → ℕ
rows_in edges_above [] = 0
rows_in edges_above (window ∷ later) = edges_above window.lo - edges_above window.hi + 1 + rows_in edges_above later
