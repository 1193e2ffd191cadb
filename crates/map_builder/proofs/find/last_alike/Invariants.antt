use Rattle.std.proofs.Common.{◌≡◌, ◌≤◌, ◌<◌, ℕ}
use Rattle.map_builder.specs.Find.{area_at}
use Rattle.map_builder.proofs.find.last_alike.Given as goal

abbrev pub invariant-loop-above : goal.invariant-loop-above
invariant-loop-above l = (k : ℕ) → l.index ≤ k → k < l.above → area_at l.ranges l.column k ≡ l.area
