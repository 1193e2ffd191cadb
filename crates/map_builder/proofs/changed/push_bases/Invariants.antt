use Rattle.std.proofs.Common.{◌≡◌, ◌≤◌, ◌+◌, ◌++◌, length, map, drop}
use Rattle.pci_bars.specs.Bases.{base_of}
use Rattle.map_builder.specs.Held.{held_from}
use Rattle.map_builder.proofs.changed.push_bases.Given as goal

abbrev pub invariant-loop-index : goal.invariant-loop-index
invariant-loop-index l = record {
  so_far : l.windows.items ++ held_from l.values l.index (map base_of (drop l.index l.bases)) ≡ l.fn.windows.items
      ++ held_from l.values 0 (map base_of l.bases);
  few : length l.windows.items ≤ length l.fn.windows.items + l.index;
}
