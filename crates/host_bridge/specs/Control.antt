-- The bytes that the SMRAM control register can hold (82441FX).
use Rattle.std.specs.Prelude.{ℕ, ◌≡◌, ◌%◌, ◌<◌, Bool, true, false}
use Rattle.board_spec.specs.Bits.{is_bit}

-- DLCK, bit 4
abbrev pub is_locked : ℕ → Bool
is_locked byte = is_bit byte 4

-- bit 7 is 0, bits 2 to 0 are 010, and DOPEN, bit 6, is 0 while DLCK is 1
pub record IsSmramByte (byte : ℕ) : Type 0 where
  pub top : byte < 0x80
  pub low : byte % 8 ≡ 0x02
  pub locked : is_locked byte ≡ true → is_bit byte 6 ≡ false
