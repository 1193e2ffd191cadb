use Rattle.std.proofs.Common.{◌≡◌, ◌+◌, ◌≤◌, length}
use Rattle.bus_turn.specs.Passes.{IsIdle, IsSameCaller, HasSameJoined, mine_of}
use Rattle.bus_turn.specs.Turns.{IsOf}
use Rattle.bus_turn.proofs.example.mark_often.Given as goal

abbrev pub invariant-loop : goal.invariant-loop
invariant-loop g l = record {
  own : IsOf l.turn l.pass;
  idle : IsIdle l.pass;
  same : IsSameCaller l.fn.pass l.pass × HasSameJoined l.fn.pass l.pass;
  mine : length (mine_of l.pass) ≡ length (mine_of l.fn.pass) + l.made;
  few : l.made ≤ l.counter;
}
