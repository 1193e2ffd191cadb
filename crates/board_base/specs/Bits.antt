-- Bits of numbers, bit 0 the lowest, and intervals of numbers.
use Rattle.std.specs.Prelude.{◌≡◌, ◌<◌, ℕ, ◌-◌, ◌/◌, ◌%◌, ◌^◌, ◌==◌, Bool, ◌&&◌, nat_le, bit_and, bit_or, if◌then◌else◌}

-- bit k of a number, 0 or 1
abbrev pub bit : ℕ → ℕ → ℕ
bit n k = n / 2 ^ k % 2

abbrev pub is_bit : ℕ → ℕ → Bool
is_bit n k = bit n k == 1

-- a register byte after a write: the bits of the mask as written, the others as they were
abbrev pub merged : ℕ → ℕ → ℕ → ℕ
merged mask old written = bit_or (bit_and written mask) (bit_and old (0xFF - mask))

-- where the mask has a one the bit is the written one, and elsewhere it is the old one
abbrev pub MergedBits : Type 0
MergedBits =
    (mask old written k : ℕ) → mask < 256 → old < 256 → written < 256 → k < 8
    → bit (merged mask old written) k ≡ (if is_bit mask k then bit written k else bit old k)

-- a number lies in an interval, both ends included
abbrev pub is_within : ℕ → ℕ → ℕ → Bool
is_within first last n = nat_le first n && nat_le n last
