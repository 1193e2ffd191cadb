-- Numbers as a script writes them.
use Rattle.std.specs.Prelude.{ℕ, ◌+◌, ◌-◌, ◌*◌, ◌==◌, Bool, ◌&&◌, not, nat_lt, nat_le, List, [], ◌∷◌, length}
use Rattle.std.specs.Prelude.{slice_index, if◌then◌else◌, Option, Some, None}
use Rattle.board_prelude.specs.{option_and_then, is_within}

-- what a field says, and what follows where it says it
infixl 10 ◌>>=◌
abbrev pub ◌>>=◌ : {A B : Type 0} → Option A → (A → Option B) → Option B
said >>= then_said = option_and_then then_said said

-- what a digit stands for, with letters in either case
abbrev pub digit_value : ℕ → Option ℕ
digit_value byte =
    if is_within 0x30 0x39 byte then Some (byte - 0x30) else
    if is_within 0x41 0x46 byte then Some (byte - 0x41 + 10) else
    if is_within 0x61 0x66 byte then Some (byte - 0x61 + 10) else None

-- a digit of a base
abbrev pub parse_digit : ℕ → ℕ → Option ℕ
parse_digit base byte = option_and_then (λ digit. if nat_lt digit base then Some digit else None) (digit_value byte)

-- the number that digits make after those that made `high`
unfoldable pub number_after : ℕ → ℕ → List ℕ → Option ℕ
number_after base high [] = Some high
number_after base high (byte ∷ rest) =
    option_and_then (λ digit. number_after base (high * base + digit) rest) (parse_digit base byte)

-- the number that all the digits of a field make
abbrev pub parse_digits : ℕ → List ℕ → Option ℕ
parse_digits base field = number_after base 0 field

-- a number of exactly so many hexadecimal digits
abbrev pub parse_hex : ℕ → List ℕ → Option ℕ
parse_hex digits field = if length field == digits then parse_digits 0x10 field else None

-- the first of several digits is a zero
abbrev pub has_leading_zero : List ℕ → Bool
has_leading_zero field = nat_le 2 (length field) && slice_index field 0 == 0x30

-- a number of 1 to 9 decimal digits, with no leading zero but in `0` itself
abbrev pub parse_decimal : List ℕ → Option ℕ
parse_decimal field =
    if nat_le 1 (length field) && nat_le (length field) 9 && not (has_leading_zero field) then parse_digits 10 field
    else None

-- two decimal digits
unfoldable pub parse_two_digits : List ℕ → Option (ℕ × List ℕ)
parse_two_digits [] = None
parse_two_digits (_ ∷ []) = None
parse_two_digits (high ∷ low ∷ rest) = do
  high ← parse_digit 10 high
  low ← parse_digit 10 low
  Some (high * 10 + low, rest)

-- what stands after a byte
unfoldable pub after_mark : ℕ → List ℕ → Option (List ℕ)
after_mark mark [] = None
after_mark mark (byte ∷ rest) = if byte == mark then Some rest else None
