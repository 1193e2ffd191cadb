-- A field is read as a moment exactly where it spells one.
use Rattle.board_prelude.proofs.{nat_tests, Moment, two_digits, moment_text}
use Rattle.std.proofs.Common.{◌≡◌, ℕ, ◌<◌, true, Some, List, ◌++◌, arith, IfSome, Option}
use Rattle.script_spec.specs.Grammar.{IsMomentForm}
use Rattle.script_spec.specs.Numbers.{parse_two_digits, after_mark}
use Rattle.script_spec.specs.Moments.{parse_moment_part, parse_year, parse_date, parse_time, whole_moment, parse_moment}
use Rattle.script_spec.proofs.NumberTexts.{is_plain}

-- ---- what is spelled is read

two_back : (n : ℕ) (rest : List ℕ) → n < 100 → parse_two_digits (two_digits n ++ rest) ≡ Some (n, rest)
unfolding parse_two_digits
two_back n rest small = grind (arith, nat_tests)

pub moment_back : (moment : Moment) → IsMomentForm moment → parse_moment (moment_text moment) ≡ Some moment
unfolding parse_moment whole_moment parse_date parse_time parse_year parse_moment_part after_mark
moment_back moment form = grind (arith, nat_tests, two_back, form.weekday)

-- no letter is a capital A to F
pub plain_moment : (moment : Moment) → is_plain (moment_text moment) ≡ true
plain_moment moment = grind (arith, nat_tests)

-- ---- what is read is spelled

-- `grind` finds what a reader tells by the first part, which is plain
abbrev Tells : {A : Type 0} → Option A → (A → Type 0) → Type 0
Tells found P = (found ≡ found) × IfSome found P

two_tells : (text : List ℕ) → Tells (parse_two_digits text) (λ p. (text ≡ two_digits p.0 ++ p.1) × (p.0 < 100))
unfolding parse_two_digits
two_tells text = grind (arith, nat_tests)

pub moment_if : (field : List ℕ) → IfSome (parse_moment field) (λ m. (field ≡ moment_text m) × IsMomentForm m)
unfolding parse_moment whole_moment parse_date parse_time parse_year parse_moment_part after_mark
moment_if field = grind (arith, nat_tests, two_tells)
