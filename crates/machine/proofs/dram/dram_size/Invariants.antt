use Rattle.std.proofs.Common.{◌≡◌, ◌*◌, ◌≤◌, ◌-◌, length, take}
use Rattle.byte_fields.specs.Pages.{memory_page, memory_bytes}
use Rattle.machine.proofs.dram.dram_size.Given as goal

abbrev pub invariant-loop-kept : goal.invariant-loop-kept
invariant-loop-kept l = record {
  size : l.size ≡ length (memory_bytes (take (l.page * memory_page) l.dram));
  within : l.page * memory_page ≤ length l.dram;
}

abbrev pub decreases-loop-kept : goal.decreases-loop-kept
decreases-loop-kept l = length l.dram - l.page * memory_page
