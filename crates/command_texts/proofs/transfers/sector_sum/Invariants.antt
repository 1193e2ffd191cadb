-- The sum of the sectors so far.
use Rattle.std.proofs.Common.{◌≡◌, ◌≤◌, ◌*◌, slice_index}
use Rattle.command_texts.specs.Transfers.{sum_below}
use Rattle.dram_store.specs.Bank.{bank_size}
use Rattle.command_texts.proofs.transfers.sector_sum.Given as goal

abbrev pub invariant-loop-lba : goal.invariant-loop-lba
invariant-loop-lba l = record {
  sum : l.sum ≡ sum_below (l.lba * 512) (slice_index l.fn.disk.medium.bytes);
  most : l.sum ≤ 255 * bank_size * l.lba;
}
