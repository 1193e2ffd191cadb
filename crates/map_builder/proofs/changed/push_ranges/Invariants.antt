use Rattle.std.proofs.Common.{◌≡◌, ◌≤◌, ◌+◌, ◌++◌, length, map, take}
use Rattle.addr_decode.specs.Singles.{ends_of_range}
use Rattle.map_builder.specs.Changed.{whole}
use Rattle.map_builder.proofs.changed.push_ranges.Given as goal

abbrev pub invariant-loop-range : goal.invariant-loop-range
invariant-loop-range l = record {
  so_far : l.windows.items ≡ l.fn.windows.items ++ map whole (map ends_of_range (take l.range-index l.ranges));
  few : length l.windows.items ≤ length l.fn.windows.items + l.range-index;
}
