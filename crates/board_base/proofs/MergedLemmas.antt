-- The bits of a byte that is merged under a mask, and one that is merged under no bits and under all.
use Rattle.std.proofs.Common.{◌≡◌, ℕ, ◌-◌, ◌%◌, ◌^◌, ◌<◌, min, max, cond, eqb, ◌∙◌, ap, arith}
use Rattle.std.proofs.lemmas.Bool.Decides.{nat_tests}
use Rattle.std.proofs.lemmas.Nat.Bits.{bit_at_and, bit_at_or, bit_at_not, bit_at-lt}
use Rattle.std.specs.Int.{w8}
use Rattle.std.specs.Int.Bits.{and_zero_r, or_zero_l, or_zero_r}
use Rattle.board_base.specs.Bits.{bit, merged, MergedBits}
use Rattle.std.proofs.lemmas.Nat.{and_mask}
use Rattle.std.specs.Int.RustNames.{bit_and, bit_or}

-- one bit of the mask chooses between two bits
chosen_bit : (mask kept old written : ℕ) → kept ≡ 1 - mask → mask < 2 → old < 2 → written < 2 →
    max (min written mask) (min old kept) ≡ cond (eqb mask 1) written old
chosen_bit mask kept old written is_kept below_mask below_old below_written = grind (arith, nat_tests)

pub merged_bits : MergedBits
merged_bits mask old written k below_mask below_old below_written below_k =
    bit_at_or (bit_and written mask) (bit_and old (255 - mask)) k
    ∙ ap (λ n. max n (bit (bit_and old (255 - mask)) k)) (bit_at_and written mask k)
    ∙ ap (λ n. max (min (bit written k) (bit mask k)) n) (bit_at_and old (255 - mask) k)
    ∙ chosen_bit (bit mask k) (bit (255 - mask) k) (bit old k) (bit written k) (bit_at_not w8 mask k below_mask below_k)
    (bit_at-lt mask k) (bit_at-lt old k) (bit_at-lt written k)

pub merged-all : (old written : ℕ) → written < 256 → merged 0xFF old written ≡ written
merged-all old written below =
    ap (λ n. bit_or n (bit_and old 0)) (and_mask written 8)
    ∙ ap (λ n. bit_or (written % 2 ^ 8) n) (and_zero_r old)
    ∙ or_zero_r (written % 2 ^ 8)
    ∙ omega arith

pub merged-none : (old written : ℕ) → old < 256 → merged 0 old written ≡ old
merged-none old written below =
    ap (λ n. bit_or n (bit_and old 0xFF)) (and_zero_r written)
    ∙ or_zero_l (bit_and old 0xFF)
    ∙ and_mask old 8
    ∙ omega arith
