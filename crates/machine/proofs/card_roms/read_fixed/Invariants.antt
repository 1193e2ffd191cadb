use Rattle.std.proofs.Common.{◌≡◌, ◌+◌, ◌<◌, ℕ, length, slice_index}
use Rattle.board_prelude.specs.{expansion_byte}
use Rattle.machine.proofs.card_roms.read_fixed.Given as goal

abbrev pub invariant-loop-k : goal.invariant-loop-k
invariant-loop-k l = record {
  size : length l.into ≡ length l.fn.into;
  bytes : (at : ℕ) → at < l.k → slice_index l.into at ≡ expansion_byte l.dev (l.off + at);
}
