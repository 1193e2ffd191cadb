-- Windows in rising order, as the code sorts them.
use Rattle.std.specs.Prelude.{nat_lt, if◌then◌else◌, List, [], ◌∷◌}
use Rattle.map_builder.specs.declared.range.Changed.{Changed}
use Rattle.map_builder.specs.Bounds.{both}

-- one window among others that rise: those that overlap it become one with it
unfoldable pub with_window : Changed → List Changed → List Changed
with_window window [] = window ∷ []
with_window window (other ∷ later) =
    if nat_lt other.hi window.lo then other ∷ with_window window later else
    if nat_lt window.hi other.lo then window ∷ with_window other later else with_window (both other window) later

unfoldable pub sorted : List Changed → List Changed
sorted [] = []
sorted (window ∷ later) = with_window window (sorted later)
