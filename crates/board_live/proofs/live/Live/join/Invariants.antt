use Rattle.std.proofs.Common.{◌≡◌, ◌+◌, length, take, drop, All}
use mathlib.Core.List.{IsPrefix}
use Rattle.bus_turn.specs.Passes.{IsIdle, IsSameCaller as IsSamePass, splits_of, seen_of as seen_in, mine_of as mine_in}
use Rattle.bus_turn.specs.Passes.{joined_of}
use Rattle.bus_turn.specs.Turns.{IsOf}
use Rattle.board_live.specs.Joins.{IsJoined}
use Rattle.board_live.proofs.live.Live.join.Given as goal

abbrev pub invariant-loop-cpu : goal.invariant-loop-cpu
invariant-loop-cpu g l = record {
  own : IsOf l.fn.self.turn l.pass;
  idle : IsIdle l.pass;
  same : IsSamePass l.fn.pass l.pass × (splits_of l.pass ≡ splits_of l.fn.pass) × (mine_in l.pass ≡ mine_in l.fn.pass);
  left : l.cpus.items ≡ take (length l.cpus.items) l.fn.cpus.items;
  count : length (joined_of l.pass) + length l.cpus.items ≡ length (joined_of l.fn.pass) + length l.fn.cpus.items;
  seen : IsPrefix (seen_in l.fn.pass) (seen_in l.pass);
  joined : All (IsJoined l.pass) (drop (length l.cpus.items) l.fn.cpus.items);
}

abbrev pub decreases-loop-cpu : goal.decreases-loop-cpu
decreases-loop-cpu g l = length l.cpus.items
