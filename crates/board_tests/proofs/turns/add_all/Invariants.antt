use Rattle.bus_turn.specs.Passes.{IsIdle, IsSameCaller, HasSameJoined}
use Rattle.bus_turn.specs.Turns.{IsOf}
use Rattle.board_tests.proofs.turns.add_all.Given as goal

abbrev pub invariant-loop-seq : goal.invariant-loop-seq
invariant-loop-seq g l = record {
  own : IsOf l.turn l.pass;
  idle : IsIdle l.pass;
  same : IsSameCaller l.fn.pass l.pass × HasSameJoined l.fn.pass l.pass;
}
