use Rattle.std.proofs.Common.{◌≡◌, length, map, take, drop}
use Rattle.map_builder.specs.Map.{range_of}
use Rattle.machine_records.specs.Maps.{range_said}
use Rattle.machine_records.proofs.map.fill_ranges.Given as goal

abbrev pub invariant-loop-index : goal.invariant-loop-index
invariant-loop-index l = record {
  size : length l.room ≡ length l.fn.room;
  front : take l.index l.room ≡ take l.index (map (λ range. range_said (range_of range)) l.ranges);
  rest : drop l.index l.room ≡ drop l.index l.fn.room;
}
