-- The text of a flat map: a line for each range, with its ends and its six areas.
use Rattle.std.specs.Prelude.{ℕ, ◌++◌, List, [], ◌∷◌, flat_map}
use Rattle.board_base.specs.declared.target.Area.{Area}
use Rattle.board_spec.specs.FlatMap.{MapRange}
use Rattle.board_spec.specs.Text.{space, line_feed, hex_long, area_text}

abbrev pub areas_text : List Area → List ℕ
areas_text areas = flat_map (λ area. space ∷ area_text area) areas

abbrev pub range_text : MapRange → List ℕ
range_text range = hex_long range.lo ++ space ∷ hex_long range.hi ++ areas_text range.areas

abbrev pub map_text : List MapRange → List ℕ
map_text ranges = flat_map (λ range. range_text range ++ line_feed ∷ []) ranges
