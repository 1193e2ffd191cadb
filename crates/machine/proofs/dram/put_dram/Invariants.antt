use Rattle.std.proofs.Common.{◌≡◌, ◌*◌, ◌≤◌, ◌-◌, ◌+◌, length, take}
use Rattle.byte_fields.specs.Pages.{memory_page, memory_bytes}
use Rattle.machine.specs.Room.{IsPutAt}
use Rattle.machine.proofs.dram.put_dram.Given as goal

abbrev pub invariant-loop-kept : goal.invariant-loop-kept
invariant-loop-kept l = record {
  put : IsPutAt l.at (memory_bytes (take (l.page * memory_page) l.dram)) l.fn.into l.into;
  end : l.end ≡ l.at + length (memory_bytes (take (l.page * memory_page) l.dram));
  within : l.page * memory_page ≤ length l.dram;
}

abbrev pub decreases-loop-kept : goal.decreases-loop-kept
decreases-loop-kept l = length l.dram - l.page * memory_page
