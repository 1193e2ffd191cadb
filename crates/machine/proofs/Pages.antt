-- Memory is spelled page by page, and of each page the front is kept.
use Rattle.std.proofs.Common.{◌≡◌, ℕ, ◌+◌, ◌-◌, ◌*◌, ◌/◌, ◌%◌, ◌≤◌, ◌<◌, inl, inr, min, true, false, Bool, List, []}
use Rattle.std.proofs.Common.{◌∷◌, ◌++◌, length, take, drop, get_or, replicate, slice_index, bytes_eq, cond, refl, sym}
use Rattle.std.proofs.Common.{ap, ◌∙◌, arith}
use Rattle.board_prelude.proofs.{bytes_eq-Decides, cases_lt, length-append, length-replicate, length-take, length-drop}
use Rattle.board_prelude.proofs.{take_at, take_all, drop_all, take-append-drop, append-nil, get_or-take, get_or-drop}
use Rattle.board_prelude.proofs.{get_or_append_left, get_or-append_right, get_or_past}
use Rattle.std.proofs.lemmas.Grind.{same_number_lists}
use Rattle.std.proofs.lemmas.List.{take-replicate, drop-replicate, replicate-append-replicate, take_min, take_rest}
use Rattle.std.specs.Cmp.{both_ways}
use Rattle.std.proofs.Math.Seq.{take-add}
use Rattle.board_base.proofs.ZeroLemmas.{zero_at}
use Rattle.byte_fields.specs.Pages.{memory_page, memory_bytes, page_bytes, pages_bytes}
use Rattle.byte_fields.proofs.PageFormats.{bytes_first, no_pages, memory_append, memory_format}
use Rattle.dram_store.specs.Bank.{bank_size}
use Rattle.machine.specs.Room.{page_of}

pub page_length : (kept : List ℕ) → length kept ≤ memory_page → length (page_of kept) ≡ memory_page
page_length kept within = simp (length-append, length-replicate {A = ℕ}) (omega arith)

-- ---- one page

one_page : (page : List ℕ) → length page ≡ memory_page → memory_bytes page ≡ page_bytes (replicate memory_page 0) page
one_page page whole =
    let plain : List ℕ = replicate memory_page 0 in
    let long : length plain ≡ memory_page = length-replicate {A = ℕ} memory_page 0 in
    ap (λ (n : ℕ). pages_bytes memory_page (replicate n 0) page) whole
    ∙ bytes_first memory_page plain page (omega arith) (omega arith)
    ∙ rw (
      take_all memory_page plain (omega arith),
      take_all (length plain) page (omega arith),
      drop_all memory_page plain (omega arith),
      no_pages memory_page (drop (length plain) page),
    ) (append-nil (page_bytes plain page))

-- a page is zeros where what is kept of it is
pub zero_page : (kept : List ℕ) → length kept ≤ memory_page →
    bytes_eq kept (take (length kept) (replicate memory_page 0)) ≡ bytes_eq (page_of kept) (replicate memory_page 0)
zero_page kept within =
    let n = length kept in
    let front : take n (replicate {A = ℕ} memory_page 0) ≡ replicate n 0 =
    take-replicate {X = ℕ} n memory_page 0 within in
    let all : n + (memory_page - n) ≡ memory_page = omega arith in
    let kept_is = bytes_eq-Decides kept (take n (replicate memory_page 0)) in
    let page_is = bytes_eq-Decides (page_of kept) (replicate memory_page 0) in
    both_ways (bytes_eq kept (take n (replicate memory_page 0))) (bytes_eq (page_of kept) (replicate memory_page 0))
    (λ is. page_is.1
    (ap (λ (bytes : List ℕ). bytes ++ replicate (memory_page - n) 0) (kept_is.0 is ∙ front)
    ∙ replicate-append-replicate {A = ℕ} n (memory_page - n) 0
    ∙ ap (λ (count : ℕ). replicate {A = ℕ} count 0) all))
    (λ is. kept_is.1 (sym (take_at kept (replicate (memory_page - n) 0) n refl) ∙ ap (take n) (page_is.0 is)))

either_size : (is_zero : Bool) (page : List ℕ) → length page ≡ memory_page →
    length (cond is_zero (0 ∷ []) (1 ∷ page)) ≡ cond is_zero 1 4097
either_size true page whole = refl
either_size false page whole = omega arith

module _ (kept : List ℕ) (within : length kept ≤ memory_page) where
  pub told_page : memory_bytes (page_of kept)
      ≡ cond (bytes_eq (page_of kept) (replicate memory_page 0)) (0 ∷ []) (1 ∷ page_of kept)
  told_page = one_page (page_of kept) (page_length kept within)

  pub told_size :
      length (memory_bytes (page_of kept)) ≡ cond (bytes_eq (page_of kept) (replicate memory_page 0)) 1 4097
  told_size =
      rw told_page
      (either_size (bytes_eq (page_of kept) (replicate memory_page 0)) (page_of kept) (page_length kept within))

-- what follows the bytes that are kept
pub rest_zeros : (kept zeros : List ℕ) → zeros ≡ replicate memory_page 0 →
    take (length zeros - length kept) (drop (length kept) zeros) ≡ replicate (memory_page - length kept) 0
rest_zeros kept zeros is = take_rest zeros (length kept) ∙ rw is (drop-replicate {X = ℕ} (length kept) memory_page 0)

pub rest_length : (kept zeros : List ℕ) → zeros ≡ replicate memory_page 0 →
    length (take (length zeros - length kept) (drop (length kept) zeros)) ≡ memory_page - length kept
rest_length kept zeros is = rw (rest_zeros kept zeros is) (length-replicate {A = ℕ} (memory_page - length kept) 0)

-- ---- page after page

pub page_on : (bytes kept : List ℕ) (page : ℕ) → (page + 1) * memory_page ≤ length bytes →
    take memory_page (drop (page * memory_page) bytes) ≡ page_of kept →
    memory_bytes (take ((page + 1) * memory_page) bytes)
    ≡ memory_bytes (take (page * memory_page) bytes) ++ memory_bytes (page_of kept)
page_on bytes kept page there is =
    let next : (page + 1) * memory_page ≡ page * memory_page + memory_page = omega arith in
    rw (next, take-add (page * memory_page) memory_page bytes, is)
    (memory_append page (take (page * memory_page) bytes) (page_of kept)
    (omega (arith, length-take (page * memory_page) bytes)))

-- how many bytes spell one page more
pub size_on : (bytes kept : List ℕ) (page : ℕ) → (page + 1) * memory_page ≤ length bytes →
    take memory_page (drop (page * memory_page) bytes) ≡ page_of kept →
    length (memory_bytes (take ((page + 1) * memory_page) bytes))
    ≡ length (memory_bytes (take (page * memory_page) bytes)) + length (memory_bytes (page_of kept))
size_on bytes kept page there is =
    rw (page_on bytes kept page there is)
    (length-append (memory_bytes (take (page * memory_page) bytes)) (memory_bytes (page_of kept)))

pub memory_few : (bytes : List ℕ) → length (memory_bytes bytes) ≤ 2 * length bytes
memory_few bytes = (memory_format (length bytes)).size bytes refl

pub no_memory : memory_bytes [] ≡ []
no_memory = no_pages memory_page []

-- no front has more bytes than the whole
pub front_fits : (bytes : List ℕ) (page : ℕ) → page * memory_page ≤ length bytes →
    length (memory_bytes (take (page * memory_page) bytes)) ≤ length (memory_bytes bytes)
front_fits bytes page there =
    let front : List ℕ = take (page * memory_page) bytes in
    let rest : List ℕ = drop (page * memory_page) bytes in
    let whole = memory_append page front rest (omega (arith, length-take (page * memory_page) bytes)) in
    omega (
      arith,
      ap length (rw (take-append-drop (page * memory_page) bytes) at whole),
      length-append (memory_bytes front) (memory_bytes rest),
    )

-- ---- the part of a MiB that is kept of a page

-- at most a page of bytes from a place on
pub part_is : (kept : List ℕ) (at from count : ℕ) → from ≡ min at (length kept) →
    count ≡ min (length (take (length kept - from) (drop from kept))) memory_page →
    take count (take (length kept - from) (drop from kept)) ≡ take memory_page (drop at kept)
part_is kept at from count is short =
    let few : count ≡ min (length kept - from) memory_page = rw (take_rest kept from, length-drop from kept) at short in
    rw (take_rest kept from) (elim (cases_lt at (length kept)) [
      | inl within ↦
          let same : from ≡ at = omega (arith, is, within) in
          let all : count ≡ min memory_page (length (drop at kept)) =
          omega (arith, is, few, within, length-drop at kept) in
          rw (same, all) (take_min memory_page (drop at kept))
      | inr past ↦
          rw (drop_all from kept (omega (arith, is, past)), drop_all at kept past) (take_all count [] (omega arith))
    ])

module _ (dram kept part : List ℕ) (page place : ℕ) (at : place ≡ page % 256 * memory_page)
    (is : part ≡ take memory_page (drop place kept)) where
  -- a byte of the page
  byte_in : (k : ℕ) → k < memory_page → get_or kept (place + k) 0 ≡ get_or (page_of part) k 0
  byte_in k below =
      let zeros : List ℕ = replicate (memory_page - length part) 0 in
      elim (cases_lt k (length part)) [
        | inl within ↦
            rw (
              get_or_append_left part zeros 0 k within,
              is,
              get_or-take memory_page (drop place kept) k 0 below,
              get_or-drop place kept k 0,
            ) refl
        | inr past ↦
            let long = rw (length-take memory_page (drop place kept), length-drop place kept) at (ap length is) in
            rw (
              get_or_past kept (place + k) 0 (omega arith),
              get_or-append_right part zeros (length part) k 0 refl past,
              zero_at (memory_page - length part) (k - length part),
            ) refl
      ]

  pub kept_page : (page / 256 + 1) * bank_size ≤ length dram →
      ((k : ℕ) → k < bank_size → slice_index dram (page / 256 * bank_size + k) ≡ slice_index kept k) →
      take memory_page (drop (page * memory_page) dram) ≡ page_of part
  kept_page there same =
      let front : List ℕ = take memory_page (drop (page * memory_page) dram) in
      let size : length front ≡ memory_page = simp (length-take, length-drop) (omega arith) in
      let long : length part ≤ memory_page = rw is (simp length-take (omega arith)) in
      same_number_lists front (page_of part) (size ∙ sym (page_length part long)) (λ k below.
      let within : k < memory_page = omega (arith, below, size) in
      let same_place : page * memory_page + k ≡ page / 256 * bank_size + (place + k) = omega (arith, at) in
      rw (
        get_or-take memory_page (drop (page * memory_page) dram) k 0 within,
        get_or-drop (page * memory_page) dram k 0,
        same_place,
        same (place + k) (omega (arith, at, within)),
      ) (byte_in k within))
