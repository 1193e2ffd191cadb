use Rattle.std.proofs.Common.{◌-◌, ◌≤◌, length}
use Rattle.map_builder.specs.Find.{BeginsBelow}
use Rattle.map_builder.proofs.build.index_from.Given as goal

abbrev pub invariant-loop-index : goal.invariant-loop-index
invariant-loop-index l = record { begins : BeginsBelow l.ranges l.index l.addr; from : l.from ≤ l.index }

abbrev pub decreases-loop-index : goal.decreases-loop-index
decreases-loop-index l = length l.ranges - l.index
