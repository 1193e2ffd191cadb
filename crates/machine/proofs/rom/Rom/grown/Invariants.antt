use Rattle.std.proofs.Common.{◌≡◌, ◌<◌, ℕ, length, slice_index}
use Rattle.board_prelude.specs.{expansion_byte}
use Rattle.machine.specs.Roms.{byte_in}
use Rattle.machine.proofs.rom.Rom.grown.Given as goal

abbrev pub invariant-loop-off : goal.invariant-loop-off
invariant-loop-off l = record {
  size : length l.bytes.items ≡ l.size;
  bytes : (off : ℕ) → off < l.off → slice_index l.bytes.items off ≡ byte_in l.self off (expansion_byte l.dev off);
}
