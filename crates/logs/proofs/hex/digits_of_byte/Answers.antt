-- The table of the two digits of each byte, entry by entry.
use Rattle.std.proofs.Common.{◌≡◌, ℕ, zero, suc, ◌+◌, ◌*◌, ◌/◌, ◌<◌, inl, inr, Bool, true, ◌&&◌, eqb, get_or, refl}
use Rattle.std.proofs.Common.{arith}
use Rattle.board_prelude.proofs.{and_parts, eqb-true, cases_lt, hex_digit}
use Rattle.logs.specs.declared.hex.TheConstants.{PAIRS}
use Rattle.logs.proofs.hex.digits_of_byte.Goals as goal

abbrev are_pairs : ℕ → Bool
are_pairs zero = true
are_pairs (suc byte) =
    (eqb (get_or PAIRS (byte * 2) 0) (hex_digit (byte / 16)) && eqb (get_or PAIRS (byte * 2 + 1) 0) (hex_digit byte))
    && are_pairs byte

below : (n byte : ℕ) → are_pairs n ≡ true → byte < n →
    (get_or PAIRS (byte * 2) 0 ≡ hex_digit (byte / 16)) × (get_or PAIRS (byte * 2 + 1) 0 ≡ hex_digit byte)
below zero byte all lt = absurd (omega (arith, lt))
below (suc n) byte all lt =
    let parts = and_parts _ (are_pairs n) all in
    let last = and_parts _ _ parts.0 in
    elim (cases_lt byte n) [
      | inl before ↦ below n byte parts.1 before
      | inr after ↦ let same : byte ≡ n = omega (arith, lt, after) in rw same (eqb-true _ _ last.0, eqb-true _ _ last.1)
    ]

pub returns-clause-high : goal.returns-clause-high
returns-clause-high c = (below 256 c.args.byte refl c.ranges.byte.fits).0

pub returns-clause-low : goal.returns-clause-low
returns-clause-low c = (below 256 c.args.byte refl c.ranges.byte.fits).1
