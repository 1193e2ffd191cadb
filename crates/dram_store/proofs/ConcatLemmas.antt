-- The bytes of banks that follow one another.
use Rattle.std.proofs.Common.{◌≡◌, ℕ, suc, ◌+◌, ◌-◌, ◌*◌, ◌/◌, ◌%◌, ◌<◌, ◌≤◌, List, [], ◌∷◌, length, set, replicate}
use Rattle.std.proofs.Common.{refl, arith, slice_index, All}
use Rattle.board_prelude.proofs.{concat, length-append, length-set, get_or_past, get_or-set_same, get_or-set_other}
use Rattle.board_prelude.proofs.{All-head, All-tail, cases_lt, nat_tests, Width, One, bytes_of, wide}
use Rattle.std.proofs.Math.ListN.{get_or}
use Rattle.std.proofs.Math.Seq.{of_parts}
use Rattle.std.proofs.lemmas.List.{get_or_read}
use Rattle.dram_store.specs.Bank.{bank_size, IsBank, IsZero, IsPut}
use Rattle.dram_store.specs.Dram.{dram_at, IsWritten}

-- the bank of an address, empty past the last
abbrev pub bank_at : List (List ℕ) → ℕ → List ℕ
bank_at banks addr = get_or banks (addr / bank_size) []

pub banks_length : (banks : List (List ℕ)) → All IsBank banks → length (concat banks) ≡ length banks * bank_size
banks_length [] each = refl
banks_length (bank ∷ later) each =
    let here : length bank ≡ bank_size = All-head IsBank bank later each in
    omega (arith, length-append bank (concat later), banks_length later (All-tail IsBank bank later each))

-- each byte is its bank's
pub bank_byte : (banks : List (List ℕ)) (at : ℕ) → All IsBank banks →
    slice_index (concat banks) at ≡ slice_index (bank_at banks at) (at % bank_size)
bank_byte [] at each = refl
bank_byte (bank ∷ later) at each =
    let here : length bank ≡ bank_size = All-head IsBank bank later each in
    grind (
      arith,
      nat_tests,
      of_parts,
      cases_lt at bank_size,
      bank_byte later (at - bank_size) (All-tail IsBank bank later each),
    )

-- ---- a value that is written to the bank of its address

-- bytes of an aligned value lie in one bank
pub aligned_fits : (addr : ℕ) (width : Width) → addr % bytes_of width ≡ 0 →
    addr % bank_size + bytes_of width ≤ bank_size
aligned_fits addr One aligned = omega arith
aligned_fits addr _ aligned = omega arith

-- a DRAM after so many bytes were written, which is as long as before
abbrev pub AreWritten : (old : List ℕ) → (addr count : ℕ) → (put : ℕ → ℕ) → (new : List ℕ) → Type 0
AreWritten old addr count put new = IsWritten old addr count put new × (length new ≡ length old)

-- so it is where they were put into the bank of the address
pub bank_written : (banks : List (List ℕ)) (bank new : List ℕ) (addr count : ℕ) (put : ℕ → ℕ) → All IsBank banks →
    addr / bank_size < length banks → bank ≡ get_or banks (addr / bank_size) bank → length new ≡ length bank →
    addr % bank_size + count ≤ bank_size → IsPut bank (addr % bank_size) count put new →
    AreWritten (concat banks) addr count put (concat (set banks (addr / bank_size) new))
bank_written banks bank new addr count put each inside value long fits is_put = grind
    (arith, nat_tests, get_or_read, banks_length, length-set, bank_byte, get_or-set_same, get_or-set_other)

-- past the banks nothing is written
pub past_banks : (banks : List (List ℕ)) (addr : ℕ) → All IsBank banks → length banks ≤ addr / bank_size →
    length (concat banks) ≤ addr
past_banks banks addr each none = omega (arith, none, banks_length banks each)

pub lost : (banks : List (List ℕ)) (addr count : ℕ) (put : ℕ → ℕ) → All IsBank banks → length banks ≤ addr / bank_size →
    AreWritten (concat banks) addr count put (concat banks)
lost banks addr count put each none =
    let past = past_banks banks addr each none in
    (λ at. grind (arith, nat_tests), refl)

-- ---- a value that is read from the bank of its address

pub read_here : (banks : List (List ℕ)) (addr : ℕ) (width : Width) → All IsBank banks →
    addr / bank_size < length banks → addr % bytes_of width ≡ 0 → wide (slice_index (bank_at banks addr))
    (addr % bank_size) width ≡ wide (λ at. dram_at (concat banks) at) addr width
read_here banks addr width each inside aligned = grind (arith, nat_tests, banks_length, aligned_fits, bank_byte)

-- ---- banks of zeros

all_zeros : (bytes : List ℕ) → ((at : ℕ) → slice_index bytes at ≡ 0) → bytes ≡ replicate (length bytes) 0
all_zeros [] zero = refl
all_zeros (byte ∷ later) zero = rw (zero 0, ← all_zeros later (λ at. zero (suc at))) refl

pub zero_banks : (banks : List (List ℕ)) → All IsBank banks → All IsZero banks →
    concat banks ≡ replicate (length banks * bank_size) 0
zero_banks banks each zeros =
    rw (← banks_length _ each)
    (all_zeros _
    (λ at. rw (bank_byte banks at each)
    (grind (arith, nat_tests, zeros (at / bank_size) [], get_or_past banks (at / bank_size) []))))
