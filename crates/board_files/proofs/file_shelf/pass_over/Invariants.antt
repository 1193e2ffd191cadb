-- What is left of the file lacks the bytes that were passed over.
use Rattle.std.proofs.Common.{◌≡◌, ◌≤◌, ◌-◌, List, ℕ, drop, Some}
use Rattle.board_files.proofs.file_shelf.pass_over.Given as goal

abbrev pub invariant-loop-left : goal.invariant-loop-left
invariant-loop-left g l = record {
  below : l.left ≤ l.count;
  passed : (bytes : List ℕ) → g.R.Read.remaining l.fn.file ≡ Some bytes →
      g.R.Read.remaining l.file ≡ Some (drop (l.count - l.left) bytes);
}

abbrev pub decreases-loop-left : goal.decreases-loop-left
decreases-loop-left g l = l.left
