use Rattle.std.proofs.Common.{◌≡◌, ◌≤◌, ◌-◌, ◌++◌, length, drop, replicate}
use Rattle.byte_fields.specs.Pages.{memory_page, pages_bytes, memory_bytes}
use Rattle.byte_fields.proofs.pages.push_memory.Given as goal

abbrev pub invariant-loop-done : goal.invariant-loop-done
invariant-loop-done l = record {
  added : l.into.items ++ pages_bytes memory_page (drop l.done (replicate (length l.bytes) 0))
      (drop l.done l.bytes) ≡ l.fn.into.items ++ memory_bytes l.bytes;
  within : l.done ≤ length l.bytes;
}

abbrev pub decreases-loop-done : goal.decreases-loop-done
decreases-loop-done l = length l.bytes - l.done
