use Rattle.std.proofs.Common.{◌≡◌, length, map, take, drop}
use Rattle.machine_records.specs.Maps.{window_said}
use Rattle.machine_records.proofs.map.fill_windows.Given as goal

abbrev pub invariant-loop-index : goal.invariant-loop-index
invariant-loop-index l = record {
  size : length l.room ≡ length l.fn.room;
  front : take l.index l.room ≡ take l.index (map window_said l.windows);
  rest : drop l.index l.room ≡ drop l.index l.fn.room;
}
