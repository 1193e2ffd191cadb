-- Stretches of bytes that are copied out of the DRAM and into it.
use Rattle.std.proofs.Common.{◌≡◌, ℕ, ◌+◌, ◌-◌, ◌*◌, ◌/◌, ◌%◌, ◌<◌, ◌≤◌, List, [], ◌++◌, length, take, drop, replicate}
use Rattle.std.proofs.Common.{arith, length-append, length-take-le, length-drop, slice_index, min, All}
use Rattle.board_base.proofs.ZeroLemmas.{zero_at}
use Rattle.board_prelude.proofs.{concat, length-replicate, get_or_past, get_or-take, get_or-drop, get_or-replicate}
use Rattle.board_prelude.proofs.{nat_tests}
use Rattle.std.proofs.Math.ListN.{get_or}
use Rattle.std.proofs.Math.Seq.{of_parts}
use Rattle.dram_store.specs.Bank.{bank_size, bank_of, page_end, IsBank, IsPut}
use Rattle.dram_store.specs.Dram.{dram_at}
use Rattle.dram_store.proofs.BankLemmas.{same_byte}
use Rattle.dram_store.proofs.ConcatLemmas.{bank_at, banks_length, bank_byte}

-- ---- in a bank

-- a list whose middle is replaced by a stretch that was copied into it
pub stretch_put : (old bytes copied : List ℕ) (from : ℕ) → from + length bytes ≤ length old → copied ≡ bytes →
    IsPut old from (length bytes) (slice_index bytes)
    (take from old ++ (copied ++ drop (from + length bytes - from) (drop from old)))
stretch_put old bytes copied from fits is at = grind (arith, nat_tests, of_parts, get_or-drop, length-take-le)

pub length_same : (old bytes copied : List ℕ) (from : ℕ) → from + length bytes ≤ length old → copied ≡ bytes →
    length (take from old ++ (copied ++ drop (from + length bytes - from) (drop from old))) ≡ length old
length_same old bytes copied from fits is =
    rw is (simp (length-append, length-drop) (omega (arith, length-take-le from old (omega arith))))

-- pages that are kept up to the last place of a stretch have room for it
pub length_put : (kept grown : List ℕ) (at size : ℕ) → 0 < size →
    grown ≡ kept ++ replicate (page_end (at + (size - 1)) - length kept) 0 → at + size ≤ length grown
length_put kept grown at size some is = rw is (simp (length-append, length-replicate {A = ℕ}) (omega arith))

-- the front of a list replaced by kept bytes, and its rest by zeros
pub bytes_read : (kept now into front rest post : List ℕ) (at from count none k : ℕ) → from ≡ min at (length kept) →
    count ≡ min (length kept - from) (length into) → now ≡ kept → front ≡ take (from + count - from) (drop from now) →
    rest ≡ replicate none 0 → length rest ≡ length into - count → k < length into →
    slice_index (take count (front ++ drop count into) ++ (rest ++ post)) k ≡ slice_index (bank_of kept) (at + k)
bytes_read kept now into front rest post at from count none k from_is count_is same front_is rest_is fills within =
    grind (
      arith,
      nat_tests,
      of_parts,
      get_or-drop,
      length-drop,
      length-take-le,
      zero_at,
      same_byte,
      get_or_past,
      length-replicate,
    )

-- the front of a list was put
pub front_put : (old new bytes : List ℕ) (from count : ℕ) → count ≤ length bytes →
    IsPut old from (length (take count bytes)) (slice_index (take count bytes)) new →
    IsPut old from count (slice_index bytes) new
front_put old new bytes from count fits put at =
    grind (arith, nat_tests, get_or-take, length-take-le count bytes fits, put at)

-- ---- over the banks

-- the bytes of a MiB, of which the front is kept
pub kept_bytes : (banks : List (List ℕ)) (bank kept : List ℕ) (mib at : ℕ) → All IsBank banks →
    bank ≡ get_or banks mib [] → bank_of kept ≡ bank → at < bank_size →
    slice_index (concat banks) (mib * bank_size + at) ≡ slice_index kept at
kept_bytes banks bank kept mib at each found is within =
    grind (arith, nat_tests, bank_byte banks (mib * bank_size + at) each, same_byte kept (bank_size - length kept) at)

-- bytes that were copied from the bank of an address
pub front_read : (banks : List (List ℕ)) (bank front rest : List ℕ) (at count k : ℕ) → All IsBank banks →
    at / bank_size < length banks → bank ≡ bank_at banks at → at % bank_size + count ≤ bank_size → k < count →
    length front ≡ count → slice_index front k ≡ slice_index bank (at % bank_size + k) →
    slice_index (front ++ rest) k ≡ dram_at (concat banks) (at + k)
front_read banks bank front rest at count k each inside found fits within long is =
    grind (arith, nat_tests, of_parts, banks_length banks each, bank_byte banks (at + k) each)

-- past the banks
pub past_read : (dram front rest : List ℕ) (at count k : ℕ) → length dram ≤ at → front ≡ replicate count 0xFF →
    k < count → slice_index (front ++ rest) k ≡ dram_at dram (at + k)
past_read dram front rest at count k past front_is within =
    grind (arith, nat_tests, of_parts, get_or-replicate, length-replicate {A = ℕ})
