use Rattle.std.proofs.Common.{◌≡◌, ◌-◌, ◌≤◌, length, slice_index}
use Rattle.dram_store.specs.Dram.{IsWritten}
use Rattle.dram_store.proofs.dram.Dram.write_bytes.Given as goal

abbrev pub invariant-loop-done : goal.invariant-loop-done
invariant-loop-done l = record {
  done : l.done ≤ length l.bytes;
  size : length l.self ≡ length l.fn.self;
  bytes : IsWritten l.fn.self l.addr l.done (slice_index l.bytes) l.self;
}

abbrev pub decreases-loop-done : goal.decreases-loop-done
decreases-loop-done l = length l.bytes - l.done
