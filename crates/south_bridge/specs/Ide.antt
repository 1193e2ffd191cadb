-- The registers of the IDE function 01.1 of the 82371SB.
use Rattle.std.specs.Prelude.{◌≡◌, ◌≢◌, ℕ, Bool, ◌&&◌}
use Rattle.board_prelude.specs.{Setup, is_bit, reset_byte, Bytes, ide as ide_register, ide_command, idetim, idetim_high}

-- the bytes that can be written: the low byte of the command, and both of IDETIM
pub record IdeBytes : Type 0 where
  pub command : ℕ
  pub timing_low : ℕ
  pub timing_high : ℕ

-- all other offsets, whose registers nothing changes
pub record IsIdeFixed (off : ℕ) : Type 0 where
  pub command : off ≢ ide_command.off
  pub timing_low : off ≢ idetim.off
  pub timing_high : off ≢ idetim_high.off

-- these are the registers of the IDE function among a board's register bytes. What cannot be written stands as after a
-- reset
pub record IsIdeOf (bytes : Bytes) (regs : IdeBytes) : Type 0 where
  pub command : regs.command ≡ bytes ide_command
  pub timing_low : regs.timing_low ≡ bytes idetim
  pub timing_high : regs.timing_high ≡ bytes idetim_high
  pub fixed : (setup : Setup) (off : ℕ) → IsIdeFixed off →
      bytes (ide_register off) ≡ reset_byte setup (ide_register off)

-- the function decodes the disk's ports by bit 0 of its command and bit 15 of IDETIM
abbrev pub is_ide_decoded : Bytes → Bool
is_ide_decoded bytes = is_bit (bytes ide_command) 0 && is_bit (bytes idetim_high) 7
