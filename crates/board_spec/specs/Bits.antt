-- Bytes of numbers, byte 0 the lowest, beside the bits.
use Rattle.std.specs.Prelude.{ℕ, ◌+◌, ◌*◌, ◌/◌, ◌%◌, ◌^◌, List, [], ◌∷◌}
use Rattle.board_base.specs.declared.access.Width.{Width}
use Rattle.board_base.specs.declared.access.Width.TheVariants.{One, Two, Four}
pub use Rattle.board_base.specs.Bits.{bit, is_bit, is_within, merged}

-- byte k of a number
abbrev pub byte : ℕ → ℕ → ℕ
byte n k = n / 256 ^ k % 256

-- the four bytes of a doubleword, the low one first
abbrev pub long_bytes : ℕ → List ℕ
long_bytes n = byte n 0 ∷ byte n 1 ∷ byte n 2 ∷ byte n 3 ∷ []

-- the number that the bytes from a place on make, the byte at the lowest place in the low bits
abbrev pub wide : (ℕ → ℕ) → ℕ → Width → ℕ
wide byte_at from One = byte_at from
wide byte_at from Two = byte_at from + 0x100 * byte_at (from + 1)
wide byte_at from Four =
    byte_at from + 0x100 * byte_at (from + 1) + 0x1_0000 * byte_at (from + 2) + 0x100_0000 * byte_at (from + 3)
