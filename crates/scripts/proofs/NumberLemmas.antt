-- Digits, one after the other.
use Rattle.board_prelude.proofs.{nat_tests, drop_more, drop_all, pow-le-pow_right, option_and_then}
use Rattle.std.proofs.Common.{◌≡◌, ℕ, ◌+◌, ◌*◌, ◌^◌, ◌<◌, ◌≤◌, Option, Some, None, List, length, get_or, drop, refl}
use Rattle.std.proofs.Common.{arith}
use Rattle.std.proofs.lemmas.Nat.{mul-add-lt}
use Rattle.std.proofs.lemmas.Grind.{pow_more}
use Rattle.script_spec.specs.Numbers.{parse_digit, number_after}

-- one more digit leaves the number below one more power, and no larger than all digits allow
pub number_below : (base high digit i : ℕ) → high < base ^ i → digit < base → high * base + digit < base ^ (i + 1)
number_below base high digit i lt lt' = omega (arith, mul-add-lt high base digit (base ^ i) lt lt', pow_more base i)

pub number_fits : (base high digit i n limit : ℕ) → high < base ^ i → digit < base → i < n → base ^ n ≤ limit
    → high * base + digit < limit
number_fits base high digit i n limit lt lt' le fits =
    let some : 0 < base = omega arith in
    let le' : i + 1 ≤ n = omega arith in
    omega (arith, number_below base high digit i lt lt', pow-le-pow_right some le')

-- the power of at most so many digits
pub power_within : (base i n : ℕ) → 0 < base → i ≤ n → base ^ i ≤ base ^ n
power_within base i n some le = pow-le-pow_right some le

-- the digit at a place, and the rest after it
step : (base high i : ℕ) (field : List ℕ) → i < length field
    → number_after base high (drop i field) ≡ option_and_then
    (λ digit. number_after base (high * base + digit) (drop (i + 1) field)) (parse_digit base (get_or field i 0))
unfolding number_after
step base high i field lt = rw (drop_more field i 0 lt) refl

pub goes_on : (base high digit i : ℕ) (field : List ℕ) (total : Option ℕ) → i < length field →
    Some digit ≡ parse_digit base (get_or field i 0) → number_after base high (drop i field) ≡ total →
    number_after base (high * base + digit) (drop (i + 1) field) ≡ total
goes_on base high digit i field total lt is so_far = grind (arith, nat_tests, step)

pub stops : (base high i : ℕ) (field : List ℕ) (total : Option ℕ) → i < length field →
    None ≡ parse_digit base (get_or field i 0) → number_after base high (drop i field) ≡ total → None ≡ total
stops base high i field total lt is so_far = grind (arith, nat_tests, step)

pub ends : (base high i : ℕ) (field : List ℕ) (total : Option ℕ) → length field ≤ i
    → number_after base high (drop i field) ≡ total → Some high ≡ total
unfolding number_after
ends base high i field total le so_far = grind (arith, nat_tests, drop_all)
