-- The rows of DRAM in the list of their boundary registers.
use Rattle.std.proofs.Common.{◌≡◌, ℕ, zero, suc, ◌+◌, ◌*◌, ◌<◌, ◌≤◌, List, [], ◌∷◌, length, Bool, None, ◌∙◌, sym, refl}
use Rattle.std.proofs.Common.{ap, arith, nat_lt, slice_index, IsNone, ◌↔◌}
use Rattle.board_prelude.proofs.{find, position, lt-ltb, cond-true, nat_tests, Bytes, boundary, top_of, row_of, bridge}
use Rattle.std.specs.List.{position_from}
use Rattle.std.proofs.lemmas.Iterator.Adapters.{position_from-zero}
use Rattle.host_bridge.specs.Pmc.{IsRowsOf}

-- the numbers of so many rows, from a first one on
abbrev pub rows_from : (first count : ℕ) → List ℕ
rows_from first zero = []
rows_from first (suc count) = first ∷ rows_from (first + 1) count

abbrev ends_above : ℕ → ℕ → Bool
ends_above addr boundary = nat_lt addr (boundary * 0x80_0000)

-- the first register of a list that ends its row above an address has the number of that row
first_from : (bytes : Bytes) (addr : ℕ) (drb : List ℕ) (first : ℕ) →
    ((k : ℕ) → k < length drb → slice_index drb k ≡ bytes (bridge (0x60 + first + k))) →
    position_from (ends_above addr) first drb ≡ find (λ row. nat_lt addr (boundary bytes row))
    (rows_from first (length drb))
first_from bytes addr [] first is_rows = refl
first_from bytes addr (b ∷ later) first is_rows =
    let here : b ≡ bytes (bridge (0x60 + first)) = is_rows 0 (omega arith) ∙ grind arith in
    let rest = first_from bytes addr later (first + 1) (λ k below. is_rows (suc k) (omega arith) ∙ grind arith) in
    rw (here, rest) refl

pub row_below_top : (bytes : Bytes) (drb : List ℕ) (addr : ℕ) → length drb ≡ 8 → IsRowsOf bytes drb →
    addr < top_of bytes → position (λ b. nat_lt addr (b * 0x80_0000)) drb ≡ row_of bytes addr
unfolding row_of
row_below_top bytes drb addr eight is_rows below =
    position_from-zero (λ b. nat_lt addr (b * 0x80_0000)) drb
    ∙ first_from bytes addr drb 0 (λ k within. is_rows k (omega arith))
    ∙ ap (λ count. find (λ row. nat_lt addr (boundary bytes row)) (rows_from 0 count)) eight
    ∙ sym (cond-true (nat_lt addr (top_of bytes)) _ _ (lt-ltb addr (top_of bytes) below))

pub row_above_top : (bytes : Bytes) (addr : ℕ) → top_of bytes ≤ addr → row_of bytes addr ≡ None
unfolding row_of
row_above_top bytes addr above = grind (arith, nat_tests)

-- an address is in no row exactly at or above the top
pub none_above_top : (bytes : Bytes) (addr : ℕ) → IsNone (row_of bytes addr) ↔ (top_of bytes ≤ addr)
unfolding row_of
none_above_top bytes addr = ((λ none. grind (arith, nat_tests)), (λ above. grind (arith, nat_tests)))
