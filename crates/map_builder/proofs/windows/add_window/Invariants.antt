use Rattle.std.proofs.Common.{◌≡◌, ◌≤◌, ◌++◌, length, take, drop}
use Rattle.map_builder.specs.Windows.{with_window}
use Rattle.map_builder.proofs.windows.add_window.Given as goal

abbrev pub invariant-loop-index : goal.invariant-loop-index
invariant-loop-index l = record {
  so_far : take l.kept l.rising.items ++ with_window l.window (drop l.index l.rising.items)
      ≡ with_window l.initial.window l.fn.rising.items;
  kept : l.kept ≤ l.index;
  long : length l.rising.items ≡ length l.fn.rising.items;
}
