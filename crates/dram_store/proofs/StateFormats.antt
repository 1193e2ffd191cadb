-- The bytes of a DRAM are spelled bank by bank, and read back.
use Rattle.std.proofs.Common.{◌≡◌, ℕ, ◌+◌, ◌-◌, ◌*◌, ◌/◌, ◌%◌, ◌≤◌, ◌<◌, List, [], ◌∷◌, ◌++◌, length, replicate, Result}
use Rattle.std.proofs.Common.{Ok, refl, sym, ap, ◌∙◌, append_assoc, arith}
use Rattle.board_prelude.proofs.{concat, append-nil, length-append, length-replicate}
use Rattle.std.proofs.lemmas.List.{replicate-append-replicate}
use Rattle.std.proofs.lemmas.List.Folds.{concat-append}
use Rattle.byte_fields.specs.declared.fault.Fault.{Fault}
use Rattle.byte_fields.specs.declared.fault.Fault.TheVariants as faults
use Rattle.byte_fields.specs.Fields.{Failed}
use Rattle.byte_fields.specs.Pages.{page_field, memory_page, memory_bytes, memory_fields}
use Rattle.byte_fields.proofs.Formats.{IsFormat}
use Rattle.byte_fields.proofs.Loops.{with_front}
use Rattle.byte_fields.proofs.PageFormats.{memory_format, memory_append, memory_zeros, memory_then, then_more, joined}
use Rattle.byte_fields.proofs.PageFormats.{zeros_go_on, zeros_end}
use Rattle.dram_store.specs.Bank.{bank_of, bank_size}
use Rattle.dram_store.specs.State.{HasMib, dram_bytes, dram_fields}
use Rattle.std.proofs.lemmas.Bool.Decides.{nat_tests}

pub dram_format : (mib : ℕ) → IsFormat (2 * (mib * bank_size)) (dram_fields mib) dram_bytes (HasMib mib)
dram_format mib = memory_format (mib * bank_size)

-- ---- the pages of a bank

-- the pages that are kept, and those of zeros after them
pub bank_bytes : (kept : List ℕ) → length kept % memory_page ≡ 0 → length kept ≤ bank_size →
    memory_bytes (bank_of kept) ≡ memory_bytes kept ++ replicate ((bank_size - length kept) / memory_page) 0
bank_bytes kept pages within =
    let rest : ℕ = (bank_size - length kept) / memory_page in
    let whole : bank_size - length kept ≡ rest * memory_page = omega (arith, pages, within) in
    memory_append (length kept / memory_page) kept (replicate (bank_size - length kept) 0) (omega (arith, pages))
    ∙ ap (λ (n : ℕ). memory_bytes kept ++ memory_bytes (replicate n 0)) whole
    ∙ rw (memory_zeros rest) refl

-- the bytes before a place, of which some are kept
abbrev pub front_at : (kept : List ℕ) → (at : ℕ) → List ℕ
front_at kept at = kept ++ replicate (at - length kept) 0

-- what is still read of a bank from a place on, after the bytes before it, is all that is read
abbrev pub IsRead : (kept : List ℕ) → (at : ℕ) → (bytes : List ℕ) → Result (List ℕ × List ℕ) ℕ → Type 0
IsRead kept at bytes total = with_front (front_at kept at) (memory_fields (bank_size - at) bytes) ≡ total

-- one page more is read
pub page_read : (kept bytes : List ℕ) (number : ℕ) (total : Result (List ℕ × List ℕ) ℕ) (page after new : List ℕ) →
    IsRead kept (number * memory_page) bytes total → number < 256 →
    page_field (replicate memory_page 0) bytes ≡ Ok (page, after) →
    front_at new ((number + 1) * memory_page) ≡ front_at kept (number * memory_page) ++ page →
    IsRead new ((number + 1) * memory_page) after total
page_read kept bytes number total page after new so_far within read is =
    let rest : bank_size - (number + 1) * memory_page ≡ bank_size - number * memory_page - memory_page = omega arith in
    rw (is, rest) (zeros_go_on _ _ _ page _ _ _ (omega arith) (omega arith) so_far read)

pub page_kept : (kept new page : List ℕ) (number : ℕ) → length kept ≤ number * memory_page →
    length page ≡ memory_page → new ≡ front_at kept (number * memory_page) ++ page →
    (length new ≡ (number + 1) * memory_page) ×
    (front_at new ((number + 1) * memory_page) ≡ front_at kept (number * memory_page) ++ page)
page_kept kept new page number before whole added = grind (
  arith,
  nat_tests,
  length-append,
  length-replicate,
  append-nil,
)

pub page_skipped : (kept : List ℕ) (number : ℕ) → length kept ≤ number * memory_page →
    front_at kept ((number + 1) * memory_page) ≡ front_at kept (number * memory_page) ++ replicate memory_page 0
page_skipped kept number before =
    let fewer : ℕ = number * memory_page - length kept in
    let more : (number + 1) * memory_page - length kept ≡ fewer + memory_page = omega arith in
    rw (more, append_assoc) (rw (replicate-append-replicate {A = ℕ} fewer memory_page 0))

pub pages_done : (kept bytes : List ℕ) (number : ℕ) (total : Result (List ℕ × List ℕ) ℕ) →
    IsRead kept (number * memory_page) bytes total → number ≡ 256 → total ≡ Ok (bank_of kept, bytes)
pages_done kept bytes number total so_far all =
    let at : number * memory_page ≡ bank_size = omega arith in
    zeros_end _ _ _ _ _ (omega arith) so_far ∙ rw at refl

-- ---- the banks of a DRAM

abbrev pub AreRead : (mib counter : ℕ) → (banks : List (List ℕ)) → (bytes : List ℕ) → Result (List ℕ × List ℕ) ℕ →
    Type 0
AreRead mib counter banks bytes total =
    with_front (concat banks) (memory_fields ((mib - counter) * bank_size) bytes) ≡ total

module _ (mib counter : ℕ) (banks : List (List ℕ)) (bytes : List ℕ) (total : Result (List ℕ × List ℕ) ℕ)
    (so_far : AreRead mib counter banks bytes total) where
  -- a bank, and then what follows it
  bank_first : counter < mib → with_front (concat banks)
      (then_more (memory_fields bank_size bytes) (memory_fields ((mib - (counter + 1)) * bank_size))) ≡ total
  bank_first below =
      let split : (mib - counter) * bank_size ≡ bank_size + (mib - (counter + 1)) * bank_size = omega arith in
      rw (← memory_then 256 ((mib - (counter + 1)) * bank_size) bytes, ← split) so_far

  pub bank_read : (bank after : List ℕ) → counter < mib → memory_fields bank_size bytes ≡ Ok (bank, after) →
      AreRead mib (counter + 1) (banks ++ bank ∷ []) after total
  bank_read bank after below read =
      rw (concat-append banks (bank ∷ []), append-nil bank)
      (sym (joined (concat banks) bank (memory_fields ((mib - (counter + 1)) * bank_size) after))
      ∙ rw read at (bank_first below))

  pub bank_failed : (fault : Fault) (after : List ℕ) → counter < mib →
      Failed fault after (memory_fields bank_size bytes) → Failed fault after total
  bank_failed faults.Bad after below read = sym (rw read at (bank_first below))
  bank_failed faults.NoMemory after below read = tt

  pub banks_done : mib ≤ counter → total ≡ Ok (concat banks, bytes)
  banks_done over = zeros_end memory_page ((mib - counter) * bank_size) (concat banks) bytes total (omega arith) so_far
