use Rattle.std.proofs.Common.{◌≤◌, length}
use Rattle.board_tests.proofs.look_places.run.Given as goal

abbrev pub invariant-loop-phase : goal.invariant-loop-phase
invariant-loop-phase g l = record { fewer : l.order.bus ≤ length l.history.entries }
