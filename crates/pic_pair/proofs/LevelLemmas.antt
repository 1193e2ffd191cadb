-- Sets of levels and the bits of their bytes.
use Rattle.std.proofs.Common.{rules, ◌≡◌, ℕ, ◌-◌, ◌*◌, ◌%◌, ◌^◌, ◌<◌, min, max, Bool, true, not, eqb, ◌||◌, ◌&&◌, refl}
use Rattle.std.proofs.Common.{ap, ◌∙◌, ◌↔◌, arith, bit_or, bit_and, w8}
use Rattle.std.specs.Int.{Width, bit_at, bit_not}
use mir.Val.{bits}
use Rattle.std.proofs.lemmas.Bool.{cases_eq, eq-eqb, ne_eqb, agree_below_at, eqb-true}
use Rattle.board_base.specs.Bits.{is_bit}
use Rattle.device_spec.proofs.Levels.{levels_where-same, has-levels_where}
use Rattle.device_spec.specs.Levels.{has, levels_where, no_levels, with_level, without_level, levels_of_byte}
use Rattle.device_spec.specs.Levels.{byte_of_levels}
use Rattle.std.proofs.lemmas.Bool.Decides.{nat_tests}
use Rattle.std.proofs.lemmas.Nat.Bits.{bit_at-lt, bit_at_or, bit_at_and, bit_at_not, bit_at_set_same, bit_at_set_other}
use Rattle.std.proofs.lemmas.Nat.Bits.{bit_at_clear_same, bit_at_clear_other}

-- ---- bits

max-bits : (x y : ℕ) → x < 2 → y < 2 → eqb (max x y) 1 ≡ (eqb x 1 || eqb y 1)
max-bits x y p q = grind (arith, nat_tests)

min-bits : (x y : ℕ) → x < 2 → y < 2 → eqb (min x y) 1 ≡ (eqb x 1 && eqb y 1)
min-bits x y p q = grind (arith, nat_tests)

not-bit : (x : ℕ) → x < 2 → eqb (1 - x) 1 ≡ not (eqb x 1)
not-bit x p = grind (arith, nat_tests)

-- bit l of a byte after a bit operation
pub is_bit-or : (a b l : ℕ) → is_bit (bit_or a b) l ≡ (is_bit a l || is_bit b l)
is_bit-or a b l = grind (arith, nat_tests, eqb, bit_at_or, max-bits, bit_at-lt)

pub is_bit-and : (a b l : ℕ) → is_bit (bit_and a b) l ≡ (is_bit a l && is_bit b l)
is_bit-and a b l = grind (arith, nat_tests, eqb, bit_at_and, min-bits, bit_at-lt)

pub is_bit-not : (b l : ℕ) → b < 256 → l < 8 → is_bit (255 - b) l ≡ not (is_bit b l)
is_bit-not b l small h = ap (λ x. eqb x 1) (bit_at_not w8 b l small h) ∙ not-bit (bit_at b l) (bit_at-lt b l)

pub is_bit-set : (w : Width) (n k l : ℕ) → k < bits w →
    is_bit (bit_or n (1 * 2 ^ k % 2 ^ bits w)) l ≡ (eqb l k || is_bit n l)
is_bit-set w n k l hk = grind (arith, nat_tests, cases_eq, eq-eqb, eqb, bit_at_set_same, ne_eqb, bit_at_set_other)

pub is_bit-clear : (w : Width) (n k l : ℕ) → k < bits w → l < bits w →
    is_bit (bit_and n (bit_not w (1 * 2 ^ k % 2 ^ bits w))) l ≡ (not (eqb l k) && is_bit n l)
is_bit-clear w n k l hk hl = search (rules, cases_eq, eq-eqb, eqb, bit_at_clear_same, ne_eqb, bit_at_clear_other)

-- ---- what the operations on masks do to the sets

pub levels_union : (a b : ℕ) → levels_of_byte (bit_or a b)
    ≡ levels_where (λ l. has (levels_of_byte a) l || has (levels_of_byte b) l)
levels_union a b = grind (arith, nat_tests, levels_where-same, has-levels_where, is_bit-or)

pub levels_both : (a b : ℕ) → levels_of_byte (bit_and a b)
    ≡ levels_where (λ l. has (levels_of_byte a) l && has (levels_of_byte b) l)
levels_both a b = grind (arith, nat_tests, levels_where-same, has-levels_where, is_bit-and)

pub levels_rest : (a b : ℕ) → b < 256 → levels_of_byte (bit_and a (255 - b))
    ≡ levels_where (λ l. has (levels_of_byte a) l && not (has (levels_of_byte b) l))
levels_rest a b small = grind (arith, nat_tests, levels_where-same, has-levels_where, is_bit-and, is_bit-not)

pub levels_set : (n k : ℕ) → k < 8 → levels_of_byte (bit_or n (1 * 2 ^ k % 256)) ≡ with_level (levels_of_byte n) k
levels_set n k hk =
    levels_where-same _ (λ l. eqb l k || has (levels_of_byte n) l)
    (λ l h. rw (has-levels_where (is_bit n) l h) (is_bit-set w8 n k l hk))

pub levels_cleared : (n k : ℕ) → k < 8 → levels_of_byte (bit_and n (255 - 1 * 2 ^ k % 256))
    ≡ without_level (levels_of_byte n) k
levels_cleared n k hk =
    levels_where-same _ (λ l. not (eqb l k) && has (levels_of_byte n) l)
    (λ l h. rw (has-levels_where (is_bit n) l h) (is_bit-clear w8 n k l hk h))

-- the byte of a byte's set
is_own_byte : ℕ → Bool
is_own_byte n = eqb n (byte_of_levels (levels_of_byte n))

pub byte-levels : (n : ℕ) → n < 256 → n ≡ byte_of_levels (levels_of_byte n)
unfolding is_own_byte byte_of_levels levels_where
byte-levels n small =
    eqb-true n (byte_of_levels (levels_of_byte n)) (agree_below_at is_own_byte (λ _. true) 256 n refl small)

-- and that of no levels is 0
pub levels_none : (n : ℕ) → n < 256 → (eqb n 0 ≡ true) ↔ (levels_of_byte n ≡ no_levels)
unfolding byte_of_levels levels_where
levels_none n small = grind (arith, nat_tests)

pub ruleset level_laws = (byte-levels, has-levels_where)
