-- The whole report: the memory map after some changes, since when each range stands, and the changes on which it rests.
use Rattle.std.specs.Prelude.{ℕ, List, map, All}
use Rattle.board_prelude.specs.{MapChange, Setup, registers_after, MapRange, IsFlatMapOf}
use Rattle.map_builder.specs.Map.{range_of}
use Rattle.map_blame.specs.declared.blamed.Blamed.{Blamed}
use Rattle.map_blame.specs.Since.{IsSince}
use Rattle.map_blame.specs.Keep.{IsKeep}

-- the range of the map
abbrev pub map_range_of : Blamed → MapRange
map_range_of blamed = range_of blamed.range

-- the ranges are the flat map after the changes in its order, each with the number since which it stands
pub record AreBlamed (setup : Setup) (changes : List MapChange) (ranges : List Blamed) : Type 0 where
  pub map : IsFlatMapOf setup (registers_after setup changes) (map map_range_of ranges)
  pub since : All (λ blamed. IsSince setup changes (map_range_of blamed) blamed.since) ranges

-- there is exactly one such report (`law_one_report`)
pub record IsBlame (setup : Setup) (changes : List MapChange) (blamed : List Blamed) (kept : List ℕ) : Type 0 where
  pub ranges : AreBlamed setup changes blamed
  pub keep : IsKeep setup changes kept
