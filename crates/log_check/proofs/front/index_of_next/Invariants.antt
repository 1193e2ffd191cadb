use Rattle.std.proofs.Common.{◌≡◌, drop}
use Rattle.board_spec.specs.Orders.{events_by}
use Rattle.log_check.proofs.front.index_of_next.Given as goal

abbrev pub invariant-loop-place : goal.invariant-loop-place
invariant-loop-place l = events_by l.actor (drop l.from l.phase) ≡ events_by l.actor (drop l.place l.phase)
