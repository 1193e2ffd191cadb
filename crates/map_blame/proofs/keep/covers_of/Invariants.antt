use Rattle.std.proofs.Common.{reverse, take}
use Rattle.map_blame.specs.Covers.{AreCoversOf}
use Rattle.map_blame.proofs.keep.covers_of.Given as goal

abbrev pub invariant-loop-index : goal.invariant-loop-index
invariant-loop-index l = record { so_far : AreCoversOf (reverse (take l.index l.changes)) l.covers }
