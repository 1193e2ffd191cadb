use Rattle.std.proofs.Common.{◌≡◌, ◌+◌, List, length}
use Rattle.board_spec.specs.declared.event.Entry.{Entry}
use Rattle.run_order.specs.Over.{over}
use Rattle.run_order.specs.Placing.{with_looks, left_after}
use Rattle.run_order.specs.Room.{in_all, looks_in}
use Rattle.run_order.proofs.order.RunOrder.looks.Given as goal

abbrev pub invariant-loop-next : goal.invariant-loop-next
invariant-loop-next l = record {
  placed : (bus : List Entry) → with_looks l.version l.actor l.rest (over bus l.self.entries)
      ≡ with_looks l.fn.version l.fn.actor l.fn.done (over bus l.fn.self.entries);
  left : left_after l.version l.rest ≡ left_after l.fn.version l.fn.done;
  bus : l.self.bus ≡ l.fn.self.bus;
  room : l.self.spare + looks_in l.fn.done ≡ l.fn.self.spare + looks_in l.rest;
  keeps : in_all l.self ≡ in_all l.fn.self;
  actor : l.actor ≡ l.fn.actor;
}

abbrev pub decreases-loop-next : goal.decreases-loop-next
decreases-loop-next l = length l.rest
