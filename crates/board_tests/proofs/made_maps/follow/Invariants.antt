use Rattle.std.proofs.Common.{◌≡◌}
use Rattle.board_tests.proofs.made_maps.follow.Given as goal

-- the board keeps its setup
abbrev pub invariant-loop-statement : goal.invariant-loop-statement
invariant-loop-statement g l = l.board.setup ≡ l.fn.board.setup
