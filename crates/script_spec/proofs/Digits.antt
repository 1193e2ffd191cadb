-- Numbers are read back from their digits, and texts are cut at a byte.
use Rattle.board_prelude.proofs.{nat_tests, list_all, AllDigits, digits_value, common_steps, and_parts, not-true}
use Rattle.std.proofs.Common.{ℕ, ◌≡◌, ◌<◌, ◌⊎◌, Bool, true, not, eqb, List, [], ◌∷◌, refl, arith, decimal, false, cond}
use Rattle.std.proofs.Common.{◌++◌, Some, eq-eqb}
use Rattle.std.proofs.lemmas.Str.Parse.{IsNumeralModel}
use Rattle.std.proofs.lemmas.Fmt.{digits_decimal, digits_value-decimal}
use Rattle.script_spec.specs.Grammar.{IsDecimal}
use Rattle.script_spec.specs.Cuts.{cut}

-- a byte does not stand in a list
abbrev pub lacks : ℕ → List ℕ → Bool
lacks byte bytes = list_all (λ b. not (eqb b byte)) bytes

pub own : IsNumeralModel (AllDigits 10) (digits_value 10)
own = record { to = λ ds d. d; from = λ ds d. d; same = λ ds d. refl }

pub value_of_decimal : (n : ℕ) → n < 1_000_000_000 → digits_value 10 (decimal n) ≡ n
value_of_decimal n small = digits_value-decimal own n (omega arith)

pub digits_of_decimal : (n : ℕ) → n < 1_000_000_000 → AllDigits 10 (decimal n)
digits_of_decimal n small = digits_decimal own n (omega arith)

pub lacks-digits : (byte : ℕ) (ds : List ℕ) → (byte < 48) ⊎ (57 < byte) → AllDigits 10 ds → lacks byte ds ≡ true
lacks-digits byte [] outside digits = refl
lacks-digits byte (c ∷ cs) outside digits = grind (arith, nat_tests, lacks-digits byte cs outside digits.1)

-- the bytes up to the first of this kind, and those after it
abbrev pub front : ℕ → List ℕ → List ℕ
front byte [] = []
front byte (c ∷ cs) = cond (eqb c byte) [] (c ∷ front byte cs)

abbrev pub back : ℕ → List ℕ → List ℕ
back byte [] = []
back byte (c ∷ cs) = cond (eqb c byte) cs (back byte cs)

pub lacks-first : (byte c : ℕ) (cs : List ℕ) → lacks byte (c ∷ cs) ≡ true → eqb c byte ≡ false
lacks-first byte c cs lack = not-true (eqb c byte) ((and_parts (not (eqb c byte)) (lacks byte cs) lack).0)

pub lacks-later : (byte c : ℕ) (cs : List ℕ) → lacks byte (c ∷ cs) ≡ true → lacks byte cs ≡ true
lacks-later byte c cs lack = (and_parts (not (eqb c byte)) (lacks byte cs) lack).1

pub front-field : (byte : ℕ) (field rest : List ℕ) → lacks byte field ≡ true → front byte (field ++ byte ∷ rest) ≡ field
front-field byte [] rest lack = rw (eq-eqb byte byte refl) refl
front-field byte (c ∷ cs) rest lack = grind (arith, nat_tests, front-field byte cs rest (lacks-later byte c cs lack))

pub back-field : (byte : ℕ) (field rest : List ℕ) → lacks byte field ≡ true → back byte (field ++ byte ∷ rest) ≡ rest
back-field byte [] rest lack = rw (eq-eqb byte byte refl) refl
back-field byte (c ∷ cs) rest lack = grind (arith, nat_tests, back-field byte cs rest (lacks-later byte c cs lack))

pub lacks-append : (byte : ℕ) (xs ys : List ℕ) → lacks byte xs ≡ true → lacks byte ys ≡ true →
    lacks byte (xs ++ ys) ≡ true
lacks-append byte xs ys one two = grind (arith, nat_tests, common_steps, lacks-first, lacks-later)

-- ---- a decimal field

pub lacks-decimal : (byte n : ℕ) → (byte < 48) ⊎ (57 < byte) → IsDecimal n → lacks byte (decimal n) ≡ true
lacks-decimal byte n outside small = lacks-digits byte (decimal n) outside (digits_of_decimal n small)

-- after a text without the mark
pub cut_field : (mark : ℕ) (field rest : List ℕ) → lacks mark field ≡ true
    → cut mark (field ++ mark ∷ rest) ≡ Some (field, rest)
unfolding cut
cut_field mark [] rest lack = rw (eq-eqb mark mark refl) refl
cut_field mark (c ∷ cs) rest lack = grind (arith, nat_tests, cut_field mark cs rest (lacks-later mark c cs lack))

-- the two parts and the mark between them are the text
pub cut_joined : (mark : ℕ) (text front rest : List ℕ) → cut mark text ≡ Some (front, rest)
    → text ≡ front ++ mark ∷ rest
unfolding cut
cut_joined mark [] front rest e = absurd cc
cut_joined mark (c ∷ cs) front rest e = grind (arith, nat_tests, cut_joined mark cs)
