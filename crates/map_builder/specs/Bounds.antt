-- Intervals of addresses and the bounds of several.
use Rattle.std.specs.Prelude.{ℕ, min, max, List, [], ◌∷◌, Option, Some, None}
use Rattle.map_builder.specs.declared.range.Changed.{Changed}

-- the addresses from a first one to a last one
abbrev pub from_to : ℕ → ℕ → Changed
from_to lo hi = record { lo = lo; hi = hi }

-- the least interval that holds both
abbrev pub both : Changed → Changed → Changed
both here there = from_to (min here.lo there.lo) (max here.hi there.hi)

abbrev pub joined : Changed → Option Changed → Changed
joined here None = here
joined here (Some there) = both here there

-- the least first and the greatest last address of some windows
unfoldable pub bounds : List Changed → Option Changed
bounds [] = None
bounds (window ∷ later) = Some (joined window (bounds later))
