use Rattle.std.proofs.Common.{◌≡◌, ℕ, ◌+◌, ◌-◌, ◌<◌, ◌≤◌, length, slice_index}
use Rattle.dram_store.specs.Dram.{dram_at}
use Rattle.dram_store.proofs.dram.Dram.read_bytes.Given as goal

abbrev pub invariant-loop-done : goal.invariant-loop-done
invariant-loop-done l = record {
  done : l.done ≤ length l.into;
  length_same : length l.into ≡ length l.fn.into;
  bytes : (k : ℕ) → k < l.done → slice_index l.into k ≡ dram_at l.self (l.addr + k);
}

abbrev pub decreases-loop-done : goal.decreases-loop-done
decreases-loop-done l = length l.into - l.done
