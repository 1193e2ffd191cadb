-- A wide access is cut by widths, and its parts are those of the widths, one after the other. They cover it, and their
-- values joined are its value.
use Rattle.std.proofs.Common.{◌≡◌, ℕ, zero, suc, ◌+◌, ◌-◌, ◌%◌, ◌≤◌, ◌<◌, inl, inr, List, [], ◌∷◌, length, refl, sym}
use Rattle.std.proofs.Common.{ap, arith, ◌⊎◌, ◌*◌, ◌/◌, ◌^◌, ◌∙◌, subst, All}
use Rattle.std.proofs.lemmas.Bool.{cases_eq}
use Rattle.std.proofs.lemmas.Bool.Decides.{nat_tests}
use Rattle.std.proofs.Math.Nat.{mod-eq_of_lt, div-div-eq-div-mul, mul_comm, div-one, one-le-pow}
use Rattle.std.proofs.lemmas.Nat.{pow-add}
use Rattle.board_base.specs.declared.access.Width.{Width}
use Rattle.board_base.specs.declared.access.Width.TheVariants.{One, Two, Four}
use Rattle.board_base.specs.declared.access.WideAccess.{WideAccess}
use Rattle.board_base.specs.Access.{bytes_of}
use Rattle.board_spec.specs.InRange.{IsWideAccess, FitsBytes}
use Rattle.board_spec.specs.WideParts.{longest_at, part_at, parts_from, parts_of, joined}
use Rattle.board_spec.specs.Stored.{is_write}
use Rattle.board_spec.specs.PartLaws.{Covers, IsPart, AreParts, CutIntoParts}
use Rattle.board_base.specs.declared.access.Access.{Access}
use Rattle.std.proofs.Math.Arith.{mod-mul}

-- ---- the parts of widths

unfoldable pub made : WideAccess → ℕ → List Width → List Access
made access from [] = []
made access from (width ∷ later) = part_at access from width ∷ made access (from + bytes_of width) later

pub length-made : (access : WideAccess) (from : ℕ) (widths : List Width) →
    length (made access from widths) ≡ length widths
unfolding made
length-made access from [] = refl
length-made access from (width ∷ later) = ap suc (length-made access (from + bytes_of width) later)

abbrev pub total : List Width → ℕ
total [] = 0
total (width ∷ later) = bytes_of width + total later

abbrev pub Aligned : ℕ → List Width → Type 0
Aligned from [] = Unit {0}
Aligned from (width ∷ later) = (from % bytes_of width ≡ 0) × Aligned (from + bytes_of width) later

-- from here on these are the longest parts that are aligned
abbrev AreLongest : (from left : ℕ) → List Width → Type 0
AreLongest from left [] = left ≡ 0
AreLongest from left (width ∷ later) =
    (longest_at from left ≡ width) × (0 < left) × AreLongest (from + bytes_of width) (left - bytes_of width) later

-- the rest of an access is cut by these widths
cut : (access : WideAccess) (most from left : ℕ) (widths : List Width) → AreLongest from left widths →
    length widths ≤ most →
    (parts_from access most from left ≡ made access from widths) × (total widths ≡ left) × Aligned from widths
unfolding parts_from made
cut access zero from left [] longest few = grind (arith, nat_tests)
cut access (suc most) from left [] longest few = grind (arith, nat_tests)
cut access zero from left (width ∷ later) longest few = grind (arith, nat_tests)
cut access (suc most) from left (width ∷ later) longest few = grind (
  arith,
  nat_tests,
  cut access most
      (from + bytes_of width) (left - bytes_of width) later longest.2 (omega arith),
)

-- ---- the eight ways to cut

pub record IsCut (access : WideAccess) : Type 0 where
  pub widths : List Width
  pub least : 2 ≤ length widths
  pub most : length widths ≤ 4
  pub parts : parts_of access ≡ made access access.addr widths
  pub total_is : total widths ≡ access.bytes
  pub aligned : Aligned access.addr widths

cut_by : (access : WideAccess) (widths : List Width) → AreLongest access.addr access.bytes widths →
    (2 ≤ length widths) × (length widths ≤ 4) → IsCut access
cut_by access widths longest count =
    let is = cut access 4 access.addr access.bytes widths longest count.1 in
    record {
      widths = widths;
      least = count.0;
      most = count.1;
      parts = is.0;
      total_is = is.1;
      aligned = is.2;
    }

quarters : (n : ℕ) → (n % 4 ≡ 0) ⊎ (n % 4 ≡ 1) ⊎ (n % 4 ≡ 2) ⊎ (n % 4 ≡ 3)
quarters n = grind arith

pub is_cut : (access : WideAccess) → IsWideAccess access → IsCut access
is_cut access legal =
    elim legal.bytes [
      | inl two ↦ cut_by access (One ∷ One ∷ []) (grind (arith, nat_tests)) (omega arith)
      | inr (inl four) ↦ elim (cases_eq (access.addr % 2) 1) [
        | inl odd ↦ cut_by access (One ∷ Two ∷ One ∷ []) (grind (arith, nat_tests)) (omega arith)
        | inr even ↦ cut_by access (Two ∷ Two ∷ []) (grind (arith, nat_tests)) (omega arith)
      ]
      | inr (inr eight) ↦ elim (quarters access.addr) [
        | inl none ↦ cut_by access (Four ∷ Four ∷ []) (grind (arith, nat_tests)) (omega arith)
        | inr (inl one) ↦ cut_by access (One ∷ Two ∷ Four ∷ One ∷ []) (grind (arith, nat_tests)) (omega arith)
        | inr (inr (inl two)) ↦ cut_by access (Two ∷ Four ∷ Two ∷ []) (grind (arith, nat_tests)) (omega arith)
        | inr (inr (inr three)) ↦ cut_by access (One ∷ Four ∷ Two ∷ One ∷ []) (grind (arith, nat_tests)) (omega arith)
      ]
    ]

-- ---- the parts cover the access

covers-made : (access : WideAccess) (from end : ℕ) (widths : List Width) → from + total widths ≡ end →
    Covers from end (made access from widths)
unfolding made
covers-made access from end [] sum = omega arith
covers-made access from end (width ∷ later) sum =
    (refl, covers-made access (from + bytes_of width) end later (omega arith))

-- ---- values

is_part :
    (access : WideAccess) (from : ℕ) (width : Width) → FitsBytes (is_write access.kind) access.bytes access.value →
    from % bytes_of width ≡ 0 → IsPart access (part_at access from width)
is_part access from width fits aligned =
    record { kind = refl; smm = refl; legal = record { aligned = aligned; fits = grind arith } }

each-made : (access : WideAccess) (from : ℕ) (widths : List Width) →
    FitsBytes (is_write access.kind) access.bytes access.value → Aligned from widths → All (IsPart access)
    (made access from widths)
unfolding made
each-made access from [] fits aligned = grind (arith, nat_tests)
each-made access from (width ∷ later) fits aligned = grind (
  arith,
  nat_tests,
  each-made access (from + bytes_of width)
      later fits aligned.1,
)

pub some_power : (n : ℕ) → 0 < 256 ^ n
some_power n = omega (arith, one-le-pow n 256 (omega arith))

-- the digits of a number past a place, taken in two steps
pub further : (value d w : ℕ) → value / 256 ^ (d + w) ≡ value / 256 ^ d / 256 ^ w
further value d w = ap (λ (n : ℕ). value / n) (pow-add 256 d w) ∙ sym (div-div-eq-div-mul value (256 ^ d) (256 ^ w))

two_digits : (x w t : ℕ) → x % 256 ^ w + 256 ^ w * (x / 256 ^ w % 256 ^ t) ≡ x % 256 ^ (w + t)
two_digits x w t = grind (arith, mod-mul x (some_power t) (some_power w), pow-add 256 w t, mul_comm)

-- the parts from a place d on give the digits of the value from there
joined-made : (access : WideAccess) (from d : ℕ) (widths : List Width) → from ≡ access.addr + d →
    joined (λ part. part.value) (made access from widths) ≡ access.value / 256 ^ d % 256 ^ total widths
unfolding made
joined-made access from d [] here = omega arith
joined-made access from d (width ∷ later) here =
    let place : from - access.addr ≡ d = omega arith in
    let w : ℕ = bytes_of width in
    rw (joined-made access (from + w) (d + w) later (omega arith), place, further access.value d w)
    (two_digits (access.value / 256 ^ d) w (total later))

pub cut_into_parts : CutIntoParts
cut_into_parts access legal =
    let cut = is_cut _ legal in
    subst (AreParts access) (sym cut.parts) (record {
      least = subst (λ (n : ℕ). 2 ≤ n) (sym (length-made access access.addr cut.widths)) cut.least;
      most = subst (λ (n : ℕ). n ≤ 4) (sym (length-made access access.addr cut.widths)) cut.most;
      covers = covers-made access _ _ _ (ap (λ (n : ℕ). access.addr + n) cut.total_is);
      each = each-made access _ _ legal.fits cut.aligned;
      value =
          joined-made access _ 0 cut.widths (omega arith)
          ∙ (rw (div-one access.value, cut.total_is) (mod-eq_of_lt (grind (arith, some_power, legal.fits))));
    })
