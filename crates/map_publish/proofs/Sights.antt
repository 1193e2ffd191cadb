-- What a viewer keeps of a map.
use Rattle.std.proofs.Common.{◌≡◌, ◌≤◌, ◌∙◌, ℕ, Bool, List, length, map, take, arith}
use Rattle.board_prelude.proofs.{length-map, Kind, Area, Setup, Bytes, MapRange, Tiles, IsFlatMapOf}
use Rattle.addr_decode.specs.MapRegs.{StandsFor}
use Rattle.map_builder.specs.declared.range.Range.{Range}
use Rattle.map_builder.specs.Map.{Mapped, most_ranges}
use Rattle.map_builder.specs.Ranges.{range_of}
use Rattle.map_publish.specs.Lists.{IsMapOfLog, changes_of}
use Rattle.map_publish.specs.Changes.{bytes_after}
use Rattle.map_publish.specs.declared.mark.Mark.{Mark}
use Rattle.map_publish.specs.Sights.{IsSight, IsSightOf, Sighted}

-- the ranges of a map, where no span is remembered
pub kept_of :
    (of : List MapRange) (seen cells : List Range) (count : ℕ) (kind : Kind) (smm : Bool) (area : Area)
    → map range_of seen ≡ of → Tiles 0 of →
    length of ≤ most_ranges → count ≡ length seen → length cells ≡ most_ranges → take count cells ≡ seen →
    IsSight cells count kind smm (record { lo = 1; hi = 0; area = area })
kept_of of seen cells count kind smm area ranges tiles few all room copied = grind (arith, length-map)

-- the sight of a list's map is that of the list
pub sight_of : (log : List Mark) (of : Mapped) (sight : Sighted) → IsMapOfLog log of → sight.version ≡ of.version →
    ((setup : Setup) (bytes : Bytes) → StandsFor setup bytes of.regs → IsFlatMapOf setup bytes sight.ranges) →
    IsSightOf log sight
sight_of log of sight is_map version flat = record {
  same = version ∙ is_map.version;
  flat = λ setup bytes stands. flat setup (bytes_after setup (changes_of log) bytes) (is_map.stands setup bytes stands);
}
