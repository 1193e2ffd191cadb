-- The setup stays.
use Rattle.std.proofs.Common.{◌≡◌}
use Rattle.board_example.proofs.monitor.serve_all.Given as goal

abbrev pub invariant-loop-event : goal.invariant-loop-event
invariant-loop-event l = record { setup : l.chipset.setup ≡ l.fn.chipset.setup }
