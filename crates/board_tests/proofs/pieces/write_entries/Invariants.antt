use Rattle.std.proofs.Common.{◌≡◌, length}
use Rattle.run_log.specs.Lines.{AreLinesOf}
use Rattle.board_tests.proofs.pieces.write_entries.Given as goal

abbrev pub invariant-loop-i : goal.invariant-loop-i
invariant-loop-i l = record {
  all : length l.lines ≡ 3;
  are : AreLinesOf l.lines l.order.items l.entries.items;
}
