-- What a viewer keeps of a map.
use Rattle.std.specs.Prelude.{ℕ, ◌≡◌, ◌≤◌, Bool, List, length, map, take}
use Rattle.board_prelude.specs.{Kind, Setup, Bytes, MapRange, Tiles, IsFlatMapOf, IsSpan}
use Rattle.addr_decode.specs.MapRegs.{StandsFor}
use Rattle.map_builder.specs.Map.{most_ranges, range_of}
use Rattle.map_builder.specs.declared.range.Range.{Range}
use Rattle.map_builder.specs.declared.range.Span.{Span}
use Rattle.map_publish.specs.declared.mark.Mark.{Mark}
use Rattle.map_publish.specs.Changes.{bytes_after}
use Rattle.map_publish.specs.Lists.{opened_of, changes_of, version_after}

-- the ranges of a map, and its version
pub record Sighted : Type 0 where
  pub ranges : List MapRange
  pub version : ℕ

-- the first so many cells cover all addresses. Where a span is remembered, it is one of this kind of access in each map
-- that has these ranges
pub record IsSight (cells : List Range) (count : ℕ) (kind : Kind) (smm : Bool) (found : Span) : Type 0 where
  pub room : length cells ≡ most_ranges
  pub within : count ≤ most_ranges
  pub tiles : Tiles 0 (map range_of (take count cells))
  pub spans :
      found.lo ≤ found.hi → (setup : Setup) (bytes : Bytes) → IsFlatMapOf setup bytes (map range_of (take count cells))
      →
      IsSpan setup bytes found.lo kind smm found.lo found.hi found.area

-- a sight shows the opened map after the changes: its version, and its ranges
pub record IsSightOf (log : List Mark) (sight : Sighted) : Type 0 where
  pub same : sight.version ≡ version_after log
  pub flat :
      (setup : Setup) (bytes : Bytes) → StandsFor setup bytes (opened_of log).regs →
      IsFlatMapOf setup (bytes_after setup (changes_of log) bytes) sight.ranges
