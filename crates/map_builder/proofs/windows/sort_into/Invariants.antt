use Rattle.std.proofs.Common.{◌≡◌, ◌≤◌, ◌+◌, length, drop}
use Rattle.map_builder.specs.Windows.{sorted}
use Rattle.map_builder.proofs.windows.sort_into.Given as goal

abbrev pub invariant-loop-index : goal.invariant-loop-index
invariant-loop-index l = record {
  so_far : l.rising.items ≡ sorted (drop l.index l.windows);
  few : length l.rising.items + l.index ≤ length l.windows;
}
