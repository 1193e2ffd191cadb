use Rattle.std.proofs.Common.{◌≡◌, All, length}
use Rattle.map_publish.proofs.publisher.viewers.Given as goal

abbrev pub invariant-loop : goal.invariant-loop
invariant-loop l = record {
  front : l.publisher.front ≡ l.fn.publisher.front;
  count : length l.viewers.items ≡ l.counter;
  each : All (λ w. w.front ≡ l.fn.publisher.front) l.viewers.items;
}
