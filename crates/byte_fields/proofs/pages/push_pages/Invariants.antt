use Rattle.std.proofs.Common.{◌≡◌, ◌≤◌, ◌-◌, ◌++◌, length, drop}
use Rattle.byte_fields.specs.Pages.{pages_bytes}
use Rattle.byte_fields.proofs.pages.push_pages.Given as goal

abbrev pub invariant-loop-done : goal.invariant-loop-done
invariant-loop-done l = record {
  added : l.into.items ++ pages_bytes l.size (drop l.done l.plain)
      (drop l.done l.bytes) ≡ l.fn.into.items ++ pages_bytes l.size l.plain l.bytes;
  within : l.done ≤ length l.bytes;
}

abbrev pub decreases-loop-done : goal.decreases-loop-done
decreases-loop-done l = length l.bytes - l.done
