use Rattle.map_builder.proofs.FindLemmas.{IsSearched}
use Rattle.map_builder.proofs.find.index_of.Given as goal

abbrev pub invariant-loop-left : goal.invariant-loop-left
invariant-loop-left l = IsSearched l.ranges l.addr l.index l.left

abbrev pub decreases-loop-left : goal.decreases-loop-left
decreases-loop-left l = l.left
