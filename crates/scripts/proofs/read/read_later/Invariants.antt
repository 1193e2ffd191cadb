use Rattle.std.proofs.Common.{◌+◌, ◌≤◌, length}
use Rattle.script_spec.specs.Lines.{lines_of}
use Rattle.scripts.proofs.Runs.{IsRun}
use Rattle.scripts.proofs.read.read_later.Given as goal

-- the lines so far are read, and those of the rest are left
abbrev pub invariant-loop-line : goal.invariant-loop-line
invariant-loop-line l = record {
  fits : l.number + length l.rest ≤ length l.bytes + 2;
  run : IsRun l.version (lines_of l.bytes) (lines_of l.rest) l.number l.reading;
}

abbrev pub decreases-loop-line : goal.decreases-loop-line
decreases-loop-line l = length l.rest
