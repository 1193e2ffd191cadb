-- The registers of one byte each: their numbers, and that each stands beside all others.
use Rattle.std.proofs.Common.{◌≡◌, ◌≢◌, ℕ, ◌<◌, ◌≤◌, Bool, true, not, ◌&&◌, Some, None, List, ◌∙◌, ap, arith, ◌==◌}
use Rattle.std.proofs.Common.{nat_lt, rules, map, slice_index}
use Rattle.board_prelude.proofs.{nat_tests, each_below, Reg, is_within, bridge, card_register, fdhc, Bytes, get_or-map}
use Rattle.addr_decode.specs.Singles.{singles, single, single_count, single_number, AreSinglesOf}
use Rattle.addr_decode.proofs.StoreLemmas.{Differs, same_or_apart}

-- ---- their numbers

-- a register that has a number stands there
pub number_stands : (reg : Reg) (number : ℕ) → single_number reg ≡ Some number →
    (number < single_count) × (single number ≡ reg)
number_stands reg number is = grind (arith, nat_tests)

-- their bytes in a list
pub singles_are : (bytes : Bytes) (held : List ℕ) → held ≡ map bytes singles → AreSinglesOf bytes held
singles_are bytes held are k below =
    ap (λ (list : List ℕ). slice_index list k) are ∙ get_or-map bytes singles k fdhc 0 below

-- each has the number at which it stands
pub numbered : (k : ℕ) → k < single_count → single_number (single k) ≡ Some k
numbered k below = each_below (λ k. single_number (single k) ≡ Some k) single_count k (search rules) below

-- one that has none is none of them
pub no_single : (reg : Reg) → single_number reg ≡ None → (k : ℕ) → k < single_count → Differs reg (single k)
no_single reg none k below = grind (arith, same_or_apart reg (single k), numbered k below)

pub singles_apart : (j k : ℕ) → j < single_count → k < single_count → j ≢ k → Differs (single j) (single k)
singles_apart j k j_below k_below apart =
    grind (arith, same_or_apart (single j) (single k), numbered j j_below, numbered k k_below)

-- ---- where they stand

-- in function 0 of a bridge, beside the PAM and the boundaries of rows
abbrev is_single : Reg → Bool
is_single reg =
    nat_lt reg.dev 2 && reg.fun == 0 && nat_lt reg.off 256 && not (reg.dev == 0 && is_within 0x59 0x67 reg.off)

pub record IsSingle (reg : Reg) : Type 0 where
  pub low : reg.dev < 2
  pub function : reg.fun ≡ 0
  pub byte : reg.off < 256
  pub apart : (off : ℕ) → 0x59 ≤ off → off ≤ 0x67 → Differs (bridge off) reg

single_told : (reg : Reg) → is_single reg ≡ true → IsSingle reg
single_told reg is = grind (arith, nat_tests)

pub single_is : (k : ℕ) → k < single_count → IsSingle (single k)
single_is k below = single_told _ (each_below (λ k. is_single (single k) ≡ true) _ k (search rules) below)

-- PAM and the boundaries of rows have no number, nor has a card
pub block_unnumbered : (off : ℕ) → 0x59 ≤ off → off ≤ 0x67 → single_number (bridge off) ≡ None
block_unnumbered off from to = grind (arith, nat_tests)

pub card_unnumbered : (dev off : ℕ) → 2 ≤ dev → single_number (card_register dev off) ≡ None
card_unnumbered dev off above = grind (arith, nat_tests)
