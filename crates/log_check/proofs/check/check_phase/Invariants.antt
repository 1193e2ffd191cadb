use Rattle.std.proofs.Common.{◌≡◌, ◌+◌, length}
use Rattle.board_spec.specs.Orders.{IsCompleteFor}
use Rattle.log_check.specs.Fronts.{left_of}
use Rattle.log_check.specs.Counted.{AreNumbersOf}
use Rattle.log_check.specs.Walks.{WalkPlace, IsWithin, IsPast}
use Rattle.log_check.proofs.check.check_phase.Given as goal

abbrev pub invariant-loop : goal.invariant-loop
invariant-loop g l = record {
  setup : (g.B.Steps.standing l.board).setup ≡ (g.B.Steps.standing l.fn.board).setup;
  phase : l.front.phase.now ≡ l.phase;
  spare : (g.B.Steps.standing l.board).spare + l.counter ≡ (g.B.Steps.standing l.fn.board).spare;
  more :
      length (g.B.Steps.standing l.board).entries ≡ length (g.B.Steps.standing l.fn.board).entries + l.counter;
  numbers : AreNumbersOf l.numbers (g.B.Steps.standing l.board).entries;
  walked : (place : WalkPlace) → IsCompleteFor place.done (g.B.Steps.standing l.fn.board).entries →
      IsPast place (g.B.Steps.standing l.fn.board).entries l.rest →
      IsWithin (record place { count = l.counter }) l.phase (left_of l.front) (g.B.Steps.standing l.board).entries
      × IsPast place (g.B.Steps.standing l.board).entries l.left;
}
