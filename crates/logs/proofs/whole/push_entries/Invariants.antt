use Rattle.std.proofs.Common.{◌≤◌, ◌+◌, ◌-◌, take, drop}
use Rattle.logs.specs.Adds.{AddsWords}
use Rattle.logs.specs.LinesFrom.{lines_from}
use Rattle.logs.proofs.whole.push_entries.Given as goal

-- a line for each entry so far
abbrev pub invariant-loop-i : goal.invariant-loop-i
invariant-loop-i l = record {
  later : 0 ≤ l.i;
  lines : AddsWords l.fn.text l.text (lines_from (0 + 1) (take (l.i - 0) (drop 0 l.entries)));
}
