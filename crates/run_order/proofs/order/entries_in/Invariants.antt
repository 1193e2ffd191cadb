use Rattle.std.proofs.Common.{◌≡◌, ◌+◌, ◌<◌, ◌≤◌, map, take}
use Rattle.run_order.specs.Room.{most, all_looks_in}
use Rattle.run_order.proofs.order.entries_in.Given as goal

abbrev pub invariant-loop-done : goal.invariant-loop-done
invariant-loop-done l = record {
  count : l.count < most → l.count ≡ l.later + all_looks_in (map (λ done. done.now) (take l.done-index l.done-items));
  small : l.count ≤ l.later + all_looks_in (map (λ done. done.now) (take l.done-index l.done-items));
}
