use Rattle.std.proofs.Common.{reverse, take}
use Rattle.make_script.specs.Counts.{AreCounts}
use Rattle.make_script.proofs.summary.counts_of.Given as goal

-- the counts of the entries so far
abbrev pub invariant-loop-i : goal.invariant-loop-i
invariant-loop-i l = AreCounts (reverse (take l.i l.entries)) l.counts
