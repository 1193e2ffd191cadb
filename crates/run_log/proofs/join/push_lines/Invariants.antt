use Rattle.std.proofs.Common.{◌≡◌, ◌+◌, ◌-◌, ◌≤◌, ◌++◌, List, drop, length, take}
use Rattle.board_prelude.specs.{Entry}
use Rattle.logs.specs.LinesFrom.{lines_from}
use Rattle.run_log.specs.Counts.{AreCountsOf}
use Rattle.run_log.specs.Lines.{AreLinesOf}
use Rattle.run_log.proofs.join.push_lines.Given as goal

-- a line for each entry so far
abbrev pub invariant-loop-i : goal.invariant-loop-i
invariant-loop-i l = record {
  later : l.start ≤ l.i;
  counts : AreCountsOf l.counts (take l.i l.order);
  each : length l.counts ≡ length l.lines;
  lines : (entries : List Entry) → AreLinesOf l.lines l.order entries → l.text.items
      ≡ l.fn.text.items ++ lines_from (l.start + 1) (take (l.i - l.start) (drop l.start entries));
}
