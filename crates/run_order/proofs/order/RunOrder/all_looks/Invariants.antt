use Rattle.std.proofs.Common.{◌≡◌, ◌+◌, ◌<◌, ℕ, List, [], map, slice_index_or}
use Rattle.board_spec.specs.declared.event.Entry.{Entry}
use Rattle.run_order.specs.Over.{over}
use Rattle.run_order.specs.Room.{in_all, all_looks_in}
use Rattle.run_order.specs.Placing.{with_all_looks, all_left}
use Rattle.run_order.specs.Settled.{IsNotDue}
use Rattle.run_order.proofs.order.RunOrder.all_looks.Given as goal

abbrev pub invariant-loop-actor : goal.invariant-loop-actor
invariant-loop-actor l = record {
  placed : (bus : List Entry)
      → with_all_looks l.version 0 (map (λ done. done.now) l.rests) (over bus l.self.entries)
      ≡ with_all_looks l.fn.version 0 (map (λ done. done.now) l.fn.rests) (over bus l.fn.self.entries);
  left : all_left l.version (map (λ done. done.now) l.rests)
      ≡ all_left l.fn.version (map (λ done. done.now) l.fn.rests);
  settled : (j : ℕ) → j < l.actor → IsNotDue l.version (slice_index_or (map (λ done. done.now) l.rests) j []);
  room : l.self.spare + all_looks_in (map (λ done. done.now) l.fn.rests)
      ≡ l.fn.self.spare + all_looks_in (map (λ done. done.now) l.rests);
  bus : l.self.bus ≡ l.fn.self.bus;
  keeps : in_all l.self ≡ in_all l.fn.self;
  version : l.version ≡ l.fn.version;
}
