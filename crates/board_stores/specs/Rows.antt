-- The cycles of a wide access that all lie in one row of ordinary DRAM.
use Rattle.std.specs.Prelude.{ℕ, zero, suc, ◌+◌, ◌*◌, None, List, map}
use Rattle.board_prelude.specs.{Part, Dram}
use Rattle.board_base.specs.declared.access.Access.{Access}

-- what a row answers, and what denies it
abbrev pub row_part : ℕ → Part
row_part row = record { target = Dram row; denial = None }

-- each cycle is answered by the row
abbrev pub in_row : ℕ → List Access → List Part
in_row row parts = map (λ part. row_part row) parts

-- the number that this many bytes make, the first of them in the low bits
abbrev pub low_first : (ℕ → ℕ) → (from count : ℕ) → ℕ
low_first byte_at from zero = 0
low_first byte_at from (suc count) = byte_at from + 0x100 * low_first byte_at (from + 1) count
