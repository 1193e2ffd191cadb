use Rattle.std.proofs.Common.{◌≡◌, ◌≤◌, ℕ}
use Rattle.map_builder.specs.Find.{area_at}
use Rattle.map_builder.proofs.find.first_alike.Given as goal

abbrev pub invariant-loop-below : goal.invariant-loop-below
invariant-loop-below l = (k : ℕ) → l.below ≤ k → k ≤ l.index → area_at l.ranges l.column k ≡ l.area
