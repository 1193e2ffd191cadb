-- The sum of the banks so far.
use Rattle.std.proofs.Common.{◌≡◌, ◌≤◌, ◌*◌, slice_index}
use Rattle.command_texts.specs.Transfers.{sum_below}
use Rattle.dram_store.specs.Bank.{bank_size}
use Rattle.command_texts.proofs.transfers.dram_sum.Given as goal

abbrev pub invariant-loop-bank : goal.invariant-loop-bank
invariant-loop-bank l = record {
  sum : l.sum ≡ sum_below (l.bank * bank_size) (slice_index l.fn.dram);
  most : l.sum ≤ 255 * bank_size * l.bank;
}
