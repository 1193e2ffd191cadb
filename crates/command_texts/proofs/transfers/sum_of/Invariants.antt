-- The sum of the bytes so far.
use Rattle.std.proofs.Common.{◌≡◌, ◌≤◌, ◌*◌, slice_index}
use Rattle.command_texts.specs.Transfers.{sum_below}
use Rattle.command_texts.proofs.transfers.sum_of.Given as goal

abbrev pub invariant-loop-byte : goal.invariant-loop-byte
invariant-loop-byte l = record {
  sum : l.sum ≡ sum_below l.byte-index (slice_index l.bytes);
  most : l.sum ≤ 255 * l.byte-index;
}
