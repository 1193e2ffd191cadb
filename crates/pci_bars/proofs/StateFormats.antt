-- The bytes behind the bases are spelled base by base, and read back.
use Rattle.std.proofs.Common.{◌≡◌, ℕ, zero, suc, ◌+◌, ◌-◌, ◌/◌, ◌%◌, ◌≤◌, ◌<◌, List, [], ◌∷◌, ◌++◌, Vec, Global, length}
use Rattle.std.proofs.Common.{drop, get_or, Option, Some, None, Result, refl, sym, ◌∙◌, append_assoc, arith, All, find}
use Rattle.std.proofs.Common.{◌==◌}
use Rattle.board_prelude.proofs.{append-nil, flat_map-cons, drop_more, drop_all, All-head, All-tail, option_map_or}
use Rattle.board_prelude.proofs.{Base, OutsideBase, IsBase, FittedCard, IsCard, kept_of_base, kept_size}
use Rattle.std.proofs.Math.Pow.{pow_mono}
use Rattle.byte_fields.specs.declared.fault.Fault.{Fault}
use Rattle.byte_fields.specs.declared.fault.Fault.TheVariants as faults
use Rattle.byte_fields.specs.Fields.{Reading, Failed}
use Rattle.byte_fields.specs.Pages.{memory_bytes, memory_fields}
use Rattle.byte_fields.proofs.Formats.{IsFormat, format_as, many_format, AreGood}
use Rattle.byte_fields.proofs.Loops.{IsLoop, with_front, stops}
use Rattle.byte_fields.proofs.PageFormats.{memory_format}
use Rattle.pci_bars.specs.Contents.{slot_number, slot_size}
use Rattle.pci_bars.specs.State.{AreContents, contents_bytes, slots_fields, contents_fields}
use Rattle.pci_bars.proofs.BaseLemmas.{is_base}
use Rattle.pci_bars.proofs.ContentsLemmas.{lists, slot_of_base}
use Rattle.std.proofs.lemmas.Bool.Decides.{nat_tests}

-- ---- of no base more than 16 MiB are kept

base_few : (found : Option Base) → ((base : Base) → found ≡ Some base → IsBase base) →
    option_map_or kept_of_base found 0 ≤ 0x100_0000
base_few None each = omega arith
base_few (Some (OutsideBase bits)) each = omega arith
base_few (Some base) each = let range = each base refl in pow_mono {i = _} {j = 24} (omega (arith, range.1))

card_few : (card : FittedCard) (base : ℕ) → IsCard card → kept_size (Some card) base ≤ 0x100_0000
card_few card base is = grind (arith, nat_tests, base_few, is_base)

kept_few : (cards : List FittedCard) (dev base : ℕ) → All IsCard cards →
    kept_size (find (λ card. card.dev == dev) cards) base ≤ 0x100_0000
kept_few [] dev base each = omega arith
kept_few (card ∷ later) dev base each =
    let here = card_few card base (All-head IsCard card later each) in
    let rest = kept_few later dev base (All-tail IsCard card later each) in
    grind arith

-- ---- base after base

abbrev pub slot_field : List FittedCard → (slot : ℕ) → Reading (List ℕ)
slot_field cards slot = memory_fields (slot_size cards slot)

abbrev pub next_slot : (slot : ℕ) → List ℕ → ℕ
next_slot slot bytes = slot + 1

abbrev IsSlot : List FittedCard → (slot : ℕ) → List ℕ → Type 0
IsSlot cards slot bytes = length bytes ≡ slot_size cards slot

pub slots_loop : (cards : List FittedCard) → IsLoop (slot_field cards) next_slot (slots_fields cards)
unfolding slots_fields
slots_loop cards = record { none = λ slot bytes. refl; more = λ slot count bytes. refl }

slot_format : (cards : List FittedCard) → All IsCard cards → (slot : ℕ) →
    IsFormat 0x200_0000 (slot_field cards slot) memory_bytes (IsSlot cards slot)
slot_format cards each slot =
    format_as _ _ _ (memory_format (slot_size cards slot)) (omega (arith, kept_few _ (2 + slot / 8) (slot % 8) each))
    (λ bytes long. long) (λ bytes long. long) (λ bytes long. refl)

good_from : (cards : List FittedCard) (contents : List (List ℕ)) (slot : ℕ) →
    ((i at : ℕ) → at ≡ slot + i → i < length contents → length (get_or contents i []) ≡ slot_size cards at) →
    AreGood next_slot (IsSlot cards) slot contents
good_from cards [] slot each = tt
good_from cards (bytes ∷ later) slot each = (
  each 0 slot (omega arith) (omega arith),
  good_from cards later (slot + 1) (λ i at is within. each (suc i) at (omega arith) (omega (arith, within))),
)

good_to :
    (cards : List FittedCard) (contents : List (List ℕ)) (slot : ℕ) → AreGood next_slot (IsSlot cards) slot contents →
    (i at : ℕ) → at ≡ slot + i → i < length contents → length (get_or contents i []) ≡ slot_size cards at
good_to cards [] slot good i at is within = absurd (omega (arith, within))
good_to cards (bytes ∷ later) slot good zero at is within = let same : at ≡ slot = omega arith in rw same good.0
good_to cards (bytes ∷ later) slot good (suc i) at is within =
    good_to cards later (slot + 1) good.1 i at (omega arith) (omega (arith, within))

sizes_to : (cards : List FittedCard) (contents : List (List ℕ)) → AreContents cards contents → (i : ℕ) → i < 64 →
    length (get_or contents i []) ≡ slot_size cards i
sizes_to cards contents are i below =
    let slot : slot_number (2 + i / 8) (i % 8) ≡ i = omega arith in
    rw slot at (are.sizes (2 + i / 8) (i % 8)
    (record { first = omega arith; last = omega (arith, below); below = omega arith }))

pub contents_format : (cards : List FittedCard) → All IsCard cards →
    IsFormat 0x8000_0000 (contents_fields cards) contents_bytes (AreContents cards)
contents_format cards each =
    format_as _ _ _ (many_format (slots_loop cards) (slot_format cards each) 0 64) (omega arith)
    (λ contents are. (
      are.count,
      good_from _ _ 0
          (λ i at is within.
          let same : at ≡ i = omega arith in
          rw same (sizes_to _ _ are i (omega (arith, within, are.count)))),
    ))
    (λ contents good. record {
      count = good.0;
      sizes = λ dev base number.
          good_to _ _ 0 good.1 _ _ (omega arith) (omega arith)
          ∙ slot_of_base cards _ _ number;
    })
    (λ contents good. refl)

-- where a base was not read
pub slot_failed : (cards : List FittedCard) (fault : Fault) (front : List (List ℕ)) (slot : ℕ) (bytes after : List ℕ)
    (total : Result (List (List ℕ) × List ℕ) ℕ) → slot < 64 →
    with_front front (slots_fields cards slot (64 - slot) bytes) ≡ total →
    Failed fault after (slot_field cards slot bytes) → Failed fault after total
slot_failed cards faults.Bad front slot bytes after total below so_far read =
    stops _ _ _ (slots_loop cards) front slot 64 slot bytes (length after) total below read so_far
slot_failed cards faults.NoMemory front slot bytes after total below so_far read = tt

-- ---- the buffers that are still to be added

pub buffer_added : (buffers : List (Vec ℕ Global)) (i : ℕ) (buffer : Vec ℕ Global) (into new total : List ℕ) →
    i < length buffers → get_or buffers i buffer ≡ buffer → into ++ contents_bytes (lists (drop i buffers)) ≡ total →
    new ≡ into ++ memory_bytes buffer.items → new ++ contents_bytes (lists (drop (i + 1) buffers)) ≡ total
buffer_added buffers i buffer into new total below is so_far added = grind
    (arith, nat_tests, lists, drop_more, append_assoc, flat_map-cons)

pub buffers_added : (buffers : List (Vec ℕ Global)) (i : ℕ) (into total : List ℕ) → length buffers ≤ i →
    into ++ contents_bytes (lists (drop i buffers)) ≡ total → into ≡ total
buffers_added buffers i into total over so_far = sym (append-nil into) ∙ rw (drop_all i buffers over) at so_far
