-- What digits add up to is the number that they make.
use Rattle.board_prelude.proofs.{nat_tests, option_and_then, range_with_len, get_or-map-range_with_len}
use Rattle.std.proofs.Common.{◌≡◌, ℕ, ◌+◌, ◌*◌, ◌^◌, ◌<◌, ◌≤◌, Option, Some, None, List, [], ◌∷◌, get_or, map, refl}
use Rattle.std.proofs.Common.{sym, ap, subst, ◌∙◌, arith}
use Rattle.script_spec.specs.Numbers.{parse_digit, parse_digits, number_after}
use Rattle.scripts.specs.Sums.{IsSum, sum_after, summand_of, value_or_more}
use Rattle.scripts.specs.declared.numbers.TheConstants.{SUMMANDS}

-- ---- the table

is_right : SUMMANDS ≡ map summand_of (range_with_len 0 256)
is_right = refl

pub summand_at : (byte : ℕ) → byte < 256 → get_or SUMMANDS byte 0 ≡ summand_of byte
summand_at byte fits =
    ap (λ (table : List ℕ). get_or table byte 0) is_right
    ∙ get_or-map-range_with_len summand_of 0 256 byte byte 0 fits (omega arith)

-- ---- one digit

abbrev IsDigit : Option ℕ → Type 0
IsDigit None = Unit {0}
IsDigit (Some digit) = digit < 16

is_digit : (byte : ℕ) (said : Option ℕ) → parse_digit 16 byte ≡ said → IsDigit said
is_digit byte said e = grind (arith, nat_tests)

pub summand_most : (byte : ℕ) → summand_of byte ≤ 2 ^ 32
summand_most byte = grind (arith, nat_tests)

-- ---- one digit more

abbrev longer : Option ℕ → Option ℕ → Option ℕ
longer high digit = option_and_then (λ h. option_and_then (λ d. Some (h * 16 + d)) digit) high

more : (limit sum : ℕ) (high digit : Option ℕ) → limit * 16 ≤ 2 ^ 32 → IsDigit digit → IsSum limit high sum →
    IsSum (limit * 16) (longer high digit) (sum * 16 + value_or_more digit)
more limit sum high digit few small is = grind (arith, nat_tests)

-- the number that digits make after those of a number, if that is one
abbrev after : Option ℕ → List ℕ → Option ℕ
after high field = option_and_then (λ h. number_after 16 h field) high

-- the limit after so many digits more, where each leaves it small
abbrev grown : (limit : ℕ) → List ℕ → ℕ
grown limit [] = limit
grown limit (_ ∷ field) = grown (limit * 16) field

abbrev IsSmall : (limit : ℕ) → List ℕ → Type 0
IsSmall limit [] = Unit {0}
IsSmall limit (_ ∷ field) = (limit * 16 ≤ 2 ^ 32) × IsSmall (limit * 16) field

sums : (limit sum : ℕ) (high : Option ℕ) (field : List ℕ) → IsSmall limit field → IsSum limit high sum
    → IsSum (grown limit field) (after high field) (sum_after sum field)
unfolding number_after
sums limit sum None [] few is = grind (arith, nat_tests)
sums limit sum (Some high) [] few is = grind (arith, nat_tests)
sums limit sum high (byte ∷ field) few is = grind (
  arith,
  nat_tests,
  sums (limit * 16) (sum * 16 + summand_of byte)
      (longer high (parse_digit 16 byte)) field few.1 (more limit sum high (parse_digit 16 byte) few.0
      (is_digit byte (parse_digit 16 byte) refl) is),
)

-- ---- as they are added

sum_is : (field : List ℕ) (sum : ℕ) → IsSmall 1 field → sum_after 0 field ≡ sum →
    IsSum (grown 1 field) (parse_digits 16 field) sum
sum_is field sum few same =
    subst (IsSum (grown 1 field) (parse_digits 16 field)) same (sums 1 0 (Some 0) field few (refl, omega arith))

pub two_added :
    (a b x y : ℕ) → x ≡ summand_of a → y ≡ summand_of b → IsSum 0x100 (parse_digits 16 (a ∷ b ∷ [])) (x * 16 + y)
two_added a b x y is_x is_y = sum_is (a ∷ b ∷ []) (x * 16 + y) (grind arith) (omega arith)

pub four_added : (a b c d x y z w : ℕ) → x ≡ summand_of a → y ≡ summand_of b → z ≡ summand_of c → w ≡ summand_of d →
    (x * 16 + y) * 0x100 + (z * 16 + w) ≡ sum_after 0 (a ∷ b ∷ c ∷ d ∷ [])
four_added a b c d x y z w is_x is_y is_z is_w = omega arith

pub four_is : (a b c d sum : ℕ) → sum ≡ sum_after 0 (a ∷ b ∷ c ∷ d ∷ []) →
    IsSum 0x1_0000 (parse_digits 16 (a ∷ b ∷ c ∷ d ∷ [])) sum
four_is a b c d sum is = sum_is (a ∷ b ∷ c ∷ d ∷ []) sum (grind arith) (sym is)

pub eight_is :
    (a b c d e f g h high low : ℕ) → high ≡ sum_after 0 (a ∷ b ∷ c ∷ d ∷ []) → low ≡ sum_after 0 (e ∷ f ∷ g ∷ h ∷ [])
    → IsSum 0x1_0000_0000 (parse_digits 16 (a ∷ b ∷ c ∷ d ∷ e ∷ f ∷ g ∷ h ∷ [])) (high * 0x1_0000 + low)
eight_is a b c d e f g h high low is_high is_low =
    sum_is (a ∷ b ∷ c ∷ d ∷ e ∷ f ∷ g ∷ h ∷ []) (high * 0x1_0000 + low) (grind arith) (omega arith)

-- ---- where the sum is below the limit, and where not

pub within : (limit sum : ℕ) (number : Option ℕ) → sum < limit → IsSum limit number sum → Some sum ≡ number
within limit sum number lt is = grind (arith, nat_tests)

pub past : (limit sum : ℕ) (number : Option ℕ) → limit ≤ sum → IsSum limit number sum → None ≡ number
past limit sum number le is = grind (arith, nat_tests)
