-- The bytes so far are those of the registers.
use Rattle.std.proofs.Common.{◌≡◌, ℕ, ◌<◌, length, slice_index}
use Rattle.board_prelude.proofs.{Setup, Bytes, reg_after}
use Rattle.addr_decode.specs.MapRegs.{map_bytes}
use Rattle.config_regs.specs.Config.{AreKeptOf, HasFixed}
use Rattle.config_regs.proofs.reading.read_from.Given as goal

abbrev pub invariant-loop-index : goal.invariant-loop-index
invariant-loop-index l = record {
  four : length l.bytes ≡ 4;
  read : (setup : Setup) (bytes : Bytes) → AreKeptOf setup bytes (map_bytes l.regs) l.south → HasFixed setup bytes →
      (k : ℕ) → k < l.index → slice_index l.bytes k ≡ bytes (reg_after l.register.reg k);
}
