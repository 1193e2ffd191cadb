use Rattle.std.proofs.Common.{◌≡◌}
use Rattle.board_tests.proofs.made_maps.follow_script.Given as goal

-- the board keeps its setup
abbrev pub invariant-loop-phase : goal.invariant-loop-phase
invariant-loop-phase g l = l.board.setup ≡ l.fn.board.setup
