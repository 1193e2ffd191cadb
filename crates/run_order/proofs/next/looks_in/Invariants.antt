use Rattle.std.proofs.Common.{◌≡◌, ◌≤◌, take}
use Rattle.run_order.specs.Room.{looks_in}
use Rattle.run_order.proofs.next.looks_in.Given as goal

abbrev pub invariant-loop-one : goal.invariant-loop-one
invariant-loop-one l = record { count : l.count ≡ looks_in (take l.one-index l.done); few : l.count ≤ l.one-index }
