use Rattle.std.proofs.Common.{◌≡◌}
use Rattle.board_live.proofs.turns.meet.Given as goal

abbrev pub invariant-loop : goal.invariant-loop
invariant-loop g l = record {
  publisher : l.publisher ≡ l.fn.publisher;
  viewer : l.viewer ≡ l.fn.viewer;
  steps : (goal.iterator-loop g).can_next l.iterator' × (goal.iterator-loop g).is_finite l.iterator';
}
