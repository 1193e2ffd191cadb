use Rattle.std.proofs.Common.{◌≤◌, ◌*◌, length}
use Rattle.board_live.specs.Callers.{IsCallerOf, IsSameCaller, mine_of}
use Rattle.board_tests.proofs.callers.write_often.Given as goal

abbrev pub invariant-loop-value : goal.invariant-loop-value
invariant-loop-value g l = record {
  own : IsCallerOf l.fn.live l.cpu;
  same : IsSameCaller l.fn.cpu l.cpu;
  room : length (mine_of l.cpu) ≤ 2 * l.value;
}
