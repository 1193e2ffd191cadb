use Rattle.std.proofs.Common.{◌≡◌, drop}
use Rattle.map_builder.specs.Bounds.{bounds}
use Rattle.map_builder.proofs.windows.bounds_of.Given as goal

abbrev pub invariant-loop-index : goal.invariant-loop-index
invariant-loop-index l = l.bounds ≡ bounds (drop l.index l.windows)
