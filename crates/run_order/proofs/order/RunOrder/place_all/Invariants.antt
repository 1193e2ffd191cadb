use Rattle.std.proofs.Common.{◌≡◌, ◌≤◌, ◌+◌, List, map, drop}
use Rattle.board_prelude.proofs.{Entry}
use Rattle.run_order.specs.Over.{AreActorsOf, over}
use Rattle.run_order.specs.Room.{in_all, all_looks_in}
use Rattle.run_order.specs.Placing.{placed}
use Rattle.run_order.specs.Settled.{IsSettled}
use Rattle.run_order.proofs.order.RunOrder.place_all.Given as goal

abbrev pub invariant-loop-i : goal.invariant-loop-i
invariant-loop-i g l = record {
  placed : (bus : List Entry) → AreActorsOf (g.A.Actors.actors l.actors) bus
      → placed l.version (drop l.i (drop l.fn.self.bus bus)) (map (λ done. done.now) l.rests) (over bus l.self.entries)
      ≡ placed l.fn.version (drop l.fn.self.bus bus) (map (λ done. done.now) l.fn.rests) (over bus l.fn.self.entries);
  fits : l.count + all_looks_in (map (λ done. done.now) l.rests) ≤ l.self.spare + l.i;
  settled : IsSettled l.version (map (λ done. done.now) l.rests);
  bus : l.self.bus ≡ l.fn.self.bus + l.i;
  keeps : in_all l.self ≡ in_all l.fn.self;
}
