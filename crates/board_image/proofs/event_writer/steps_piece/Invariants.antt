-- The steps so far are written.
use Rattle.std.proofs.Common.{◌≡◌, take, map, flat_map}
use Rattle.board_spec.specs.Orders.{statement_of}
use Rattle.board_image.specs.ImageBytes.{step_bytes}
use Rattle.board_image.proofs.event_writer.steps_piece.Given as goal

abbrev pub invariant-loop-i : goal.invariant-loop-i
invariant-loop-i l = l.piece.items ≡ flat_map step_bytes (map statement_of (take l.i l.entries))
