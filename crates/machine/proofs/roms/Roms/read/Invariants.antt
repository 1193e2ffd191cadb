use Rattle.std.proofs.Common.{◌≡◌, ◌+◌, ◌<◌, ℕ, length, slice_index}
use Rattle.machine.specs.Roms.{rom_byte}
use Rattle.machine.proofs.roms.Roms.read.Given as goal

abbrev pub invariant-loop-k : goal.invariant-loop-k
invariant-loop-k l = record {
  size : length l.into ≡ length l.fn.into;
  bytes : (at : ℕ) → at < l.k → slice_index l.into at ≡ rom_byte l.self l.dev (l.off + at);
}
