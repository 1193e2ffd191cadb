-- The bytes of a bank that are kept, and the zeros above them.
use Rattle.std.proofs.Common.{◌≡◌, ℕ, ◌-◌, List, ◌++◌, length, replicate, arith, slice_index}
use Rattle.board_base.proofs.ZeroLemmas.{zero_at}
use Rattle.board_prelude.proofs.{get_or_past, nat_tests}
use Rattle.std.proofs.Math.Seq.{of_parts}
use Rattle.dram_store.specs.Bank.{bank_size, bank_of, IsPut}

-- a list that is read past its end gives 0, as the bytes do that are not kept
pub same_byte : (kept : List ℕ) (count at : ℕ) → slice_index (kept ++ replicate count 0) at ≡ slice_index kept at
same_byte kept count at = grind (arith, nat_tests, of_parts, zero_at, get_or_past kept at 0)

-- so many more bytes are kept, and then bytes are put into the kept ones
pub put_in_kept : (kept grown new : List ℕ) (count from size : ℕ) (put : ℕ → ℕ) → grown ≡ kept ++ replicate count 0 →
    IsPut grown from size put new → IsPut (bank_of kept) from size put (bank_of new)
put_in_kept kept grown new count from size put more is at =
    let same = same_byte new (bank_size - length new) at in
    let before = same_byte kept (bank_size - length kept) at in
    grind (arith, nat_tests, same_byte kept count at, is at)
