use Rattle.std.proofs.Common.{◌≡◌, ◌+◌, ◌≤◌, length, map, All, vec_capacity}
use Rattle.std.specs.List.{range_with_len}
use Rattle.bus_turn.specs.Passes.{IsIdle, IsSameCaller as IsSamePass, splits_of}
use Rattle.bus_turn.specs.Turns.{IsOf}
use Rattle.board_live.specs.Passes.{IsFresh, IsViewerFor, callers_in}
use Rattle.board_live.specs.Callers.{IsCallerOf, IsNewOf}
use Rattle.board_live.proofs.live.Live.callers.Given as goal

abbrev pub invariant-loop-viewer : goal.invariant-loop-viewer
invariant-loop-viewer g l = record {
  own : IsOf l.fn.self.turn l.pass;
  idle : IsIdle l.pass;
  same : IsSamePass l.fn.pass l.pass;
  fresh : IsFresh l.pass;
  splits : splits_of l.pass ≡ length l.cpus.items;
  left : length l.cpus.items + length l.viewers.items + 1 ≡ callers_in l.fn.pass;
  viewers : All (IsViewerFor l.fn.pass) l.viewers.items;
  room : callers_in l.fn.pass ≤ vec_capacity l.cpus;
  callers : All (IsCallerOf l.fn.self) l.cpus.items;
  new : All (IsNewOf l.fn.pass) l.cpus.items;
  numbers : map (λ cpu. cpu.number) l.cpus.items ≡ range_with_len 1 (length l.cpus.items);
}

abbrev pub decreases-loop-viewer : goal.decreases-loop-viewer
decreases-loop-viewer g l = length l.viewers.items
