-- One line of a table of registers, and what holds from an offset on.
use Rattle.std.proofs.Common.{◌≡◌, ℕ, zero, suc, ◌+◌, ◌<◌, ◌≤◌, List, ◌∷◌, length, inl, inr, arith}
use Rattle.std.proofs.lemmas.Bool.{cases_eq}
use Rattle.std.proofs.lemmas.Bool.Decides.{nat_tests}
use Rattle.board_spec.specs.RegisterTable.{Line, listed}

module _ (column : Line → List ℕ) (entry : Line) (later : List Line) (off : ℕ) where
  pub listed-past : entry.first + length entry.reset ≤ off → listed column (entry ∷ later) off ≡ listed column later off
  listed-past past = grind (arith, nat_tests)

  pub listed-before : off < entry.first → listed column (entry ∷ later) off ≡ listed column later off
  listed-before before = grind (arith, nat_tests)

-- what holds at this many offsets from a first one on
abbrev pub Each : (P : ℕ → Type 0) (first count : ℕ) → Type 0
Each P first zero = Unit {0}
Each P first (suc count) = P first × Each P (first + 1) count

pub each_from : (P : ℕ → Type 0) (first count off : ℕ) → Each P first count → first ≤ off → off < first + count → P off
each_from P first zero off each from below = absurd (omega arith)
each_from P first (suc count) off each from below =
    elim (cases_eq first off) [
      | inl is ↦ rw (← is) each.0
      | inr past ↦ each_from P (first + 1) count off each.1 (omega arith) (omega arith)
    ]

pub each_below : (P : ℕ → Type 0) (count off : ℕ) → Each P 0 count → off < count → P off
each_below P count off each below = each_from P 0 count off each (omega arith) (omega arith)
