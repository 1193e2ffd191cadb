use Rattle.std.proofs.Common.{◌≤◌, length}
use Rattle.board_tests.proofs.look_places.add_calls.Given as goal

abbrev pub invariant-loop-call : goal.invariant-loop-call
invariant-loop-call l = record { longer : length l.fn.bus.entries ≤ length l.bus.entries }
