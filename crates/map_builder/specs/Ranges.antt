-- The ranges of a map as they are built, of which the last may still go on.
use Rattle.std.specs.Prelude.{ℕ, ◌≡◌, ◌≢◌, ◌-◌, ◌⊎◌, List, [], ◌∷◌, ◌++◌}
use Rattle.board_prelude.specs.{Area, address_count, MapRange}
use Rattle.map_builder.specs.declared.range.Range.{Range}

abbrev pub range_of : Range → MapRange
range_of range = record { lo = range.lo; hi = range.hi; areas = range.row.areas }

-- how the ranges go on at an address with these areas: the last range has them too, or it ends below, and another
-- begins
abbrev pub ContinuesAt : (ranges ranges' : List MapRange) → (last last' : MapRange) → (addr : ℕ) → List Area → Type 0
ContinuesAt ranges ranges' last last' addr areas =
    ((areas ≡ last.areas) × (ranges' ≡ ranges) × (last' ≡ last))
    ⊎ ((areas ≢ last.areas)
    × (ranges' ≡ ranges ++ record last { hi = addr - 1 } ∷ [])
    × (last' ≡ record { lo = addr; hi = address_count - 1; areas = areas }))
