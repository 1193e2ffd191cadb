use Rattle.std.proofs.Common.{◌≡◌, ◌≤◌, ◌+◌, ◌++◌, length, reverse, All}
use Rattle.board_spec.specs.LogText.{lines_text}
use Rattle.script_spec.specs.WellFormed.{IsWellFormed}
use Rattle.logs.proofs.read.read_entries.Given as goal

-- the lines so far are those of the entries so far
abbrev pub invariant-loop-rest : goal.invariant-loop-rest
invariant-loop-rest l = record {
  cut : l.lines ≡ lines_text (reverse l.entries.items) ++ l.rest;
  each : All (IsWellFormed l.version) (reverse l.entries.items);
  place : l.n ≡ length l.entries.items + 1;
  room : length l.entries.items + length l.rest ≤ length l.lines;
}

abbrev pub decreases-loop-rest : goal.decreases-loop-rest
decreases-loop-rest l = length l.rest
