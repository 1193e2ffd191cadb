use Rattle.std.proofs.Common.{◌≡◌, ◌++◌, take, map, string_bytes}
use Rattle.board_spec.specs.MapText.{map_text}
use Rattle.map_builder.specs.Map.{range_of}
use Rattle.command_texts.proofs.replay.push_map.Given as goal

-- the lines of the ranges so far
abbrev pub invariant-loop-range : goal.invariant-loop-range
invariant-loop-range l = string_bytes l.text ≡ string_bytes l.fn.text ++ map_text
    (map range_of (take l.range-index l.ranges))
