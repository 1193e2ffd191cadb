use Rattle.std.proofs.Common.{◌≡◌, ◌+◌, ◌≤◌, List, length, take, reverse}
use Rattle.board_prelude.proofs.{Entry, Setup, IsLegal}
use Rattle.run_order.specs.Over.{AreActorsOf, over}
use Rattle.run_order.specs.Room.{in_all}
use Rattle.run_order.proofs.order.RunOrder.begin.Given as goal

abbrev pub invariant-loop-i : goal.invariant-loop-i
invariant-loop-i g l = record {
  same : (setup : Setup) (bus : List Entry) → AreActorsOf (g.A.Actors.actors l.actors) bus
      → IsLegal setup (reverse bus) → over bus l.order.entries ≡ reverse (take l.i bus);
  bus : l.order.bus ≡ l.i;
  room : length (g.A.Actors.actors l.actors) ≤ l.order.spare + l.i;
  most : l.most ≤ in_all l.order;
}
