-- The levels of the sixteen lines, and the bits of their mask.
use Rattle.std.proofs.Common.{◌≡◌, ℕ, ◌+◌, ◌-◌, ◌*◌, ◌/◌, ◌%◌, ◌^◌, ◌<◌, Bool, true, false, cond, eqb, ◌||◌, List, ◌++◌}
use Rattle.std.proofs.Common.{length, take, drop, replicate, get_or, set, refl, sym, ap, subst, ◌∙◌, arith, length-set}
use Rattle.std.proofs.Common.{get_or-set_same, get_or-set_other, bit_or, bit_and, w16}
use Rattle.std.proofs.lemmas.List.{take-append-drop, get_or-map, ext_get_or}
use Rattle.std.proofs.lemmas.Bool.{cases_eq}
use Rattle.board_base.specs.Bits.{is_bit}
use Rattle.device_spec.specs.Levels.{levels_where, levels_of_byte}
use Rattle.device_spec.proofs.Levels.{levels_where-same}
use Rattle.std.proofs.lemmas.Bool.Decides.{nat_tests}
use Rattle.std.proofs.lemmas.Nat.Bits.{bit_at_cat_low, bit_at_cat_high}
use Rattle.pic_pair.specs.Lines.{sixteen, lines_where, lines_of}
use Rattle.pic_pair.proofs.LevelLemmas.{is_bit-or, is_bit-set, is_bit-clear}

-- ---- line by line

-- the lines that pass the test are at 1
pub has_lines_where : (p : ℕ → Bool) (l : ℕ) → l < 16 → get_or (lines_where p) l false ≡ p l
unfolding lines_where
has_lines_where p l small = get_or-map p sixteen l 0 false small ∙ ap p (grind (arith, nat_tests))

pub lines_where_length : (p : ℕ → Bool) → length (lines_where p) ≡ 16
unfolding lines_where
lines_where_length p = refl

-- a list of sixteen levels that pass the test
pub lines_where-is : (p : ℕ → Bool) (levels : List Bool) → length levels ≡ 16 →
    ((l : ℕ) → l < 16 → get_or levels l false ≡ p l) → levels ≡ lines_where p
lines_where-is p levels size each =
    ext_get_or false levels (lines_where p) (size ∙ sym (lines_where_length p))
    (λ l h.
    let small : l < 16 = subst (λ (n : ℕ). l < n) size h in
    each l small ∙ sym (has_lines_where p l small))

-- ---- what the operations on masks do to the lines

module _ (n k : ℕ) (small : k < 16) where
  one_line : (p : ℕ → Bool) (on : Bool) → ((l : ℕ) → l < 16 → p l ≡ cond (eqb l k) on (is_bit n l)) →
      lines_where p ≡ set (lines_of n) k on
  one_line p on told =
      let size = lines_where_length (is_bit n) in
      sym (lines_where-is p (set (lines_of n) k on) (length-set (lines_of n) k on ∙ size)
      (λ l below.
      let here = get_or-set_same (lines_of n) k on false in
      let other = get_or-set_other (lines_of n) k l on false in
      grind (arith, nat_tests, told l below, size, cases_eq l k, here, other, has_lines_where)))

  pub lines_raised : lines_of (bit_or n (1 * 2 ^ k % 65536)) ≡ set (lines_of n) k true
  lines_raised = one_line _ true (λ l h. grind (arith, nat_tests, is_bit-set w16 n k l small))

  pub lines_lowered : lines_of (bit_and n (65535 - 1 * 2 ^ k % 65536)) ≡ set (lines_of n) k false
  lines_lowered = one_line _ false (λ l h. grind (arith, nat_tests, is_bit-clear w16 n k l small h))

pub lines_either : (a b l : ℕ) → l < 16 → get_or (lines_of (bit_or a b)) l false
    ≡ (get_or (lines_of a) l false || get_or (lines_of b) l false)
lines_either a b l small = grind (arith, nat_tests, has_lines_where, bit_or, is_bit-or)

pub lines_low : lines_of 0 ≡ replicate 16 false
unfolding lines_where
lines_low = refl

-- ---- the bytes of a mask

-- a bit of the low byte, and one of the high byte
low_bit : (n l : ℕ) → l < 8 → is_bit (n % 256) l ≡ is_bit n l
low_bit n l small =
    let whole : n / 256 * 2 ^ 8 + n % 256 ≡ n = omega arith in
    ap (λ x. eqb x 1) (rw whole at (sym (bit_at_cat_low (n / 256) 8 (n % 256) l small)))

high_bit : (n l : ℕ) → is_bit (n / 256) l ≡ is_bit n (8 + l)
high_bit n l =
    let whole : n / 256 * 2 ^ 8 + n % 256 ≡ n = omega arith in
    let place : 8 + l - 8 ≡ l = omega arith in
    ap (λ x. eqb x 1)
    (rw (whole, place) at (sym (bit_at_cat_high (n / 256) 8 (n % 256) (8 + l) (omega arith) (omega arith))))

pub low_lines : (n : ℕ) → levels_of_byte (n % 256) ≡ take 8 (lines_of n)
unfolding lines_where levels_where
low_lines n = levels_where-same _ (is_bit n) (low_bit n)

pub high_lines : (n : ℕ) → levels_of_byte (n / 256) ≡ drop 8 (lines_of n)
unfolding lines_where levels_where
high_lines n = levels_where-same _ (λ l. is_bit n (8 + l)) (λ l small. high_bit n l)

-- the mask of two bytes
pub lines_of_bytes : (low high : ℕ) → low < 256 →
    lines_of (low + 256 * high) ≡ levels_of_byte low ++ levels_of_byte high
lines_of_bytes low high below =
    let n = low + 256 * high in
    let first : n % 256 ≡ low = omega (arith, below) in
    let second : n / 256 ≡ high = omega (arith, below) in
    sym (take-append-drop 8 (lines_of n))
    ∙ cc (low_lines n, high_lines n, ap levels_of_byte first, ap levels_of_byte second)
