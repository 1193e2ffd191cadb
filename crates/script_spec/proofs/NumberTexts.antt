-- Fields are read as numbers exactly where they spell them.
use Rattle.script_spec.proofs.Chains.{then_read, some_is, guarded, if_some, Spells}
use Rattle.std.proofs.Common.{Bool, true, ◌≡◌, ℕ, zero, suc, ◌+◌, ◌*◌, ◌/◌, ◌%◌, ◌^◌, ◌<◌, ◌≤◌, false, not, eqb, ◌&&◌}
use Rattle.std.proofs.Common.{Some, List, [], ◌∷◌, length, refl, sym, ap, ◌∙◌, arith, pow-suc, lit<, decimal, ◌-◌}
use Rattle.std.proofs.Common.{IfSome, leb-true, eqb-true, lt-ltb, le-leb, eq-eqb}
use Rattle.board_prelude.proofs.{nat_tests, AllZip, AllDigits, digits_value, pow-le-pow_right, byte, hex_digit}
use Rattle.board_prelude.proofs.{hex_number, list_all, and_parts, is_within}
use Rattle.std.specs.Char.{digit_value as value_of_digit}
use Rattle.std.specs.Str.Parse.{digits_value_after}
use native.Mathlib.Nat.{div-div-eq-div-mul}
use Rattle.std.proofs.lemmas.Fmt.{decimal-digits_value, digits_value-decimal, length-decimal-le, first_decimal}
use Rattle.std.proofs.lemmas.Fmt.{decimal_nonempty, decimal_digit}
use Rattle.std.proofs.lemmas.Int.Digits.{digits_value-lt}
use Rattle.board_spec.proofs.PartLawProofs.{some_power}
use Rattle.script_spec.specs.Grammar.{IsDecimal, StandsFor}
use Rattle.script_spec.specs.Numbers.{parse_digit, number_after, parse_digits, parse_hex, parse_decimal}
use Rattle.script_spec.proofs.Digits.{own, digits_of_decimal}
use Rattle.std.proofs.lemmas.List.Elements.{length_all_zip}
use Rattle.std.proofs.Math.Nat.{div-eq_of_lt}

-- ---- decimals

digits : (high n : ℕ) (ds : List ℕ) → number_after 10 high ds ≡ Some n
    → AllDigits 10 ds × (digits_value_after 10 high ds ≡ n)
unfolding number_after
digits high n [] e = grind (arith, nat_tests, some_is)
digits high n (c ∷ cs) e = grind (arith, nat_tests, some_is, digits (high * 10 + value_of_digit c) n cs)

parts : (a b c : Bool) → (a && b && not c) ≡ true → (a ≡ true) × (b ≡ true) × (c ≡ false)
parts a b c test = grind (arith, nat_tests)

pub decimal_read : (field : List ℕ) (n : ℕ) → parse_decimal field ≡ Some n → (field ≡ decimal n) × IsDecimal n
decimal_read field n e =
    let g = guarded _ _ n e in
    let test = parts _ _ _ g.0 in
    let some = leb-true 1 (length field) test.0 in
    let read = digits 0 n _ g.1 in
    let most = pow-le-pow_right {n = 10} (lit< tt) (leb-true (length field) 9 test.1) in
    let small : digits_value 10 field < 1_000_000_000 = omega (arith, digits_value-lt 10 field read.0) in
    let text = decimal-digits_value own field read.0 (omega (arith, some)) (λ first. grind (arith, nat_tests, test.2))
    (omega (arith, small)) in
    (sym text ∙ ap decimal read.1, rw read.1 at small)

pub decimal_if : (field : List ℕ) → IfSome (parse_decimal field) (λ n. (field ≡ decimal n) × IsDecimal n)
decimal_if field = if_some (parse_decimal field) _ (decimal_read field)

-- ---- hexadecimal numbers

digit_stands : (c d : ℕ) → parse_digit 16 c ≡ Some d → StandsFor c (hex_digit d) × (d < 16)
digit_stands c d e = grind (arith, nat_tests)

above_byte : (n k : ℕ) → n / 256 ^ suc k ≡ n / 256 ^ k / 256
above_byte n k = ap (λ (p : ℕ). n / p) (pow-suc 256 k) ∙ sym (div-div-eq-div-mul n (256 ^ k) 256)

-- two digits are a byte
two_digits : (h a b q : ℕ) → a < 16 → b < 16 → q ≡ (h * 16 + a) * 16 + b
    → (q / 256 ≡ h) × ((q % 256 / 16 % 16 ≡ a) × (q % 256 % 16 ≡ b))
two_digits h a b q la lb is = omega arith

digit_again : (n d : ℕ) → n % 16 ≡ d → hex_digit n ≡ hex_digit d
digit_again n d is = let e : d % 16 ≡ d = omega (arith, is) in rw (is, e) refl

-- so many digits after those that made `high`
hex_digits : (k high n : ℕ) (field : List ℕ) → length field ≡ k + k → number_after 16 high field ≡ Some n
    → (n / 256 ^ k ≡ high) × AllZip StandsFor field (hex_number k n)
unfolding number_after
hex_digits zero high n [] long e = (let is = some_is high n e in omega (arith, is), tt)
hex_digits (suc k) high n (c ∷ d ∷ cs) long e =
    let s = then_read (parse_digit 16 c) _ n (digit_stands c) e in
    let t = then_read (parse_digit 16 d) _ n (digit_stands d) s.2 in
    let later = hex_digits k ((high * 16 + s.0) * 16 + t.0) n cs (omega (arith, long)) t.2 in
    let parts = two_digits high s.0 t.0 (n / 256 ^ k) s.1.1 t.1.1 later.0 in (
      above_byte n k ∙ parts.0,
      (
        rw (digit_again (byte n k / 16) s.0 parts.1.0) s.1.0,
        (rw (digit_again (byte n k) t.0 parts.1.1) t.1.0, later.1),
      ),
    )
hex_digits _ high n field long e = absurd (omega (arith, long))

pub hex_read : (k : ℕ) (field : List ℕ) (n : ℕ) → parse_hex (2 * k) field ≡ Some n
    → AllZip StandsFor field (hex_number k n) × (n < 256 ^ k)
hex_read k field n e =
    let g = guarded (eqb (length field) (2 * k)) (parse_digits 0x10 field) n e in
    let long : length field ≡ k + k = omega (arith, eqb-true (length field) (2 * k) g.0) in
    let read = hex_digits k 0 n field long g.1 in
    (read.1, grind (arith, nat_tests, some_power k, read.0))

pub hex_if : (k : ℕ) (field : List ℕ) →
    IfSome (parse_hex (2 * k) field) (λ n. Spells field (hex_number k n) × (n < 256 ^ k))
hex_if k field = if_some (parse_hex (2 * k) field) _ (hex_read k field)

-- ---- texts without capitals A to F stand for themselves alone

abbrev pub is_plain : List ℕ → Bool
is_plain text = list_all (λ byte. not (is_within 0x41 0x46 byte)) text

pub plain_is : (field text : List ℕ) → is_plain text ≡ true → Spells field text → field ≡ text
plain_is [] [] plain spells = refl
plain_is (c ∷ cs) (t ∷ ts) plain spells =
    grind (arith, nat_tests, plain_is cs ts (and_parts (not (is_within 0x41 0x46 t)) (is_plain ts) plain).1 spells.1)
plain_is field text plain spells = absurd spells

pub plain-digits : (ds : List ℕ) → AllDigits 10 ds → is_plain ds ≡ true
plain-digits [] digits = refl
plain-digits (c ∷ cs) digits = grind (arith, nat_tests, plain-digits cs digits.1)

-- ---- decimals

pub digit_so : (c d : ℕ) → 48 ≤ c → c ≤ 57 → c - 48 ≡ d → d < 10 → parse_digit 10 c ≡ Some d
digit_so c d low high is small = rw (le-leb 0x30 c low, le-leb c 0x39 high, is, lt-ltb d 10 small) refl

digits_read : (high : ℕ) (ds : List ℕ) → AllDigits 10 ds
    → number_after 10 high ds ≡ Some (digits_value_after 10 high ds)
unfolding number_after
digits_read high [] digits = refl
digits_read high (c ∷ cs) digits = grind (arith, nat_tests, digits_read (high * 10 + value_of_digit c) cs digits.1)

pub decimal_back : (n : ℕ) → IsDecimal n → parse_decimal (decimal n) ≡ Some n
decimal_back n small =
    let read : parse_digits 10 (decimal n) ≡ Some n =
    digits_read 0 (decimal n) (digits_of_decimal n small)
    ∙ ap (λ (x : ℕ). Some x) (digits_value-decimal own n (omega (arith, small))) in
    let few = length-decimal-le 9 n (lit< tt) small (omega (arith, small)) in
    grind (arith, nat_tests, decimal_nonempty, decimal_digit, first_decimal)

-- ---- hexadecimal numbers

-- what stands for a digit is read as the digit
digit_read : (c n : ℕ) → StandsFor c (hex_digit n) → parse_digit 16 c ≡ Some (n % 16)
digit_read c n stands = grind (arith, nat_tests)

-- after the digits that made what stands above so many bytes
pub hex_after : (k high n : ℕ) (field : List ℕ) → high ≡ n / 256 ^ k → Spells field (hex_number k n)
    → number_after 16 high field ≡ Some n
unfolding number_after
hex_after zero high n [] is spells = let same : high ≡ n = omega (arith, is) in ap (λ (x : ℕ). Some x) same
hex_after (suc k) high n (c ∷ d ∷ cs) is spells =
    let above : high ≡ n / 256 ^ k / 256 = is ∙ above_byte n k in
    rw (digit_read c (byte n k / 16) spells.0, digit_read d (byte n k) spells.1.0)
    (hex_after k _ n cs (omega (arith, above)) spells.1.1)
hex_after _ high n _ is spells = grind arith

hex_length : (k n : ℕ) → length (hex_number k n) ≡ 2 * k
hex_length zero n = refl
hex_length (suc k) n = omega (arith, hex_length k n)

pub hex_back : (k n : ℕ) (field : List ℕ) → n < 256 ^ k → Spells field (hex_number k n)
    → parse_hex (2 * k) field ≡ Some n
hex_back k n field small spells =
    let long : length field ≡ 2 * k = length_all_zip StandsFor field (hex_number k n) spells ∙ hex_length k n in
    rw (eq-eqb (length field) (2 * k) long) (hex_after k 0 n field (sym (div-eq_of_lt small)) spells)
