-- The bytes behind the bases: as they begin, and after a write.
use Rattle.std.proofs.Common.{◌≡◌, ◌≢◌, ℕ, ◌+◌, ◌-◌, ◌<◌, ◌≤◌, List, [], ◌∷◌, map, Vec, Global, length, get_or, set}
use Rattle.std.proofs.Common.{take, drop, ◌++◌, replicate, ◌∙◌, refl, sym, arith, get_or-set_other, length-append}
use Rattle.std.proofs.Common.{length-drop, length-take-le, ◌==◌, find, slice_index, unwrap_or, vec_len}
use Rattle.board_prelude.proofs.{with_items, cases_lt, cases_eq, nat_tests, get_or_past, length-replicate, length-map}
use Rattle.board_prelude.proofs.{map-set, get_or-map, with_items_is, Width, Card, bytes_of, Entry, FittedCard, Setup}
use Rattle.board_prelude.proofs.{card_at, kept_size, CardCell, byte_put, card_byte, entry_put, stored_of, get_or-set_at}
use Rattle.std.proofs.lemmas.List.{set_past}
use Rattle.board_base.proofs.ZeroLemmas.{zero_at}
use Rattle.board_spec.proofs.WideLemmas.{put_byte}
use Rattle.pci_bars.specs.Contents.{IsBaseNumber, slot_number, held, held_byte, HaveSizes, IsContentsOf, slot_size}

-- ---- bytes that are kept, and those that are not

pub held_within : (contents : List (List ℕ)) (dev base off : ℕ) → base ≢ 6 → off < length (held contents dev base) →
    held_byte contents dev base off ≡ slice_index (held contents dev base) off
held_within contents dev base off kept within = grind (arith, nat_tests)

pub card_within :
    (setup : Setup) (history : List Entry) (dev base off : ℕ) → base ≢ 6 → off < kept_size (card_at setup dev) base →
    card_byte setup history dev base off ≡ stored_of history (CardCell dev base off)
card_within setup history dev base off kept within = grind (arith, nat_tests)

-- what the contents of a history are asked to be, and what they give: each byte that is kept is the last one stored
pub contents_of :
    {setup : Setup} {history : List Entry} {contents : List (List ℕ)} → HaveSizes setup contents →
    ((dev base off : ℕ) → IsBaseNumber dev base → base ≢ 6 → off < length (held contents dev base) →
    slice_index (held contents dev base) off ≡ stored_of history (CardCell dev base off)) →
    IsContentsOf setup history contents
contents_of sizes each = record {
  sizes = sizes;
  bytes = λ dev base off number. grind (arith, nat_tests, sizes dev base number, each dev base off number);
}

pub stored_byte :
    {setup : Setup} {history : List Entry} {contents : List (List ℕ)} → IsContentsOf setup history contents →
    (dev base off : ℕ) → IsBaseNumber dev base → base ≢ 6 → off < length (held contents dev base) →
    slice_index (held contents dev base) off ≡ stored_of history (CardCell dev base off)
stored_byte {setup} {history} {contents} is dev base off number kept within =
    sym (held_within contents dev base off kept within)
    ∙ is.bytes dev base off number
    ∙ card_within setup history dev base off kept (omega (arith, is.sizes dev base number))

-- ---- after a write

abbrev at_slot : List (List ℕ) → ℕ → List ℕ
at_slot contents slot = get_or contents slot []

sizes_stay :
    (contents : List (List ℕ)) (slot : ℕ) (new : List ℕ) (i : ℕ) → length new ≡ length (at_slot contents slot) →
    length (at_slot (set contents slot new) i) ≡ length (at_slot contents i)
sizes_stay contents slot new i same =
    grind (
      arith,
      cases_lt slot (length contents),
      cases_eq i slot,
      get_or-set_at contents slot i new [],
      get_or-set_other contents slot i new [],
      set_past contents slot new,
    )

-- what a write of a value puts into a byte of a base
abbrev pub written_byte : (dev base off : ℕ) → Width → (value : ℕ) → (d b at old : ℕ) → ℕ
written_byte dev base off width value d b at old =
    unwrap_or (byte_put (Card dev base off) 0 width value (CardCell d b at)) old

pub same_slot : {dev base d b : ℕ} → IsBaseNumber dev base → IsBaseNumber d b → slot_number d b ≡ slot_number dev base →
    (d ≡ dev) × (b ≡ base)
same_slot {dev} {base} {d} {b} place other same = grind (arith, nat_tests)

-- what a write leaves
pub record IsWritten (old : List (List ℕ)) (dev base off : ℕ) (width : Width) (value : ℕ) (new : List (List ℕ))
    : Type 0 where
  pub sizes : (d b : ℕ) → length (held new d b) ≡ length (held old d b)
  pub bytes : (d b at : ℕ) → IsBaseNumber d b → at < length (held old d b) →
      held_byte new d b at ≡ written_byte dev base off width value d b at (held_byte old d b at)

module _ (old : List (List ℕ)) (dev base off : ℕ) (width : Width) (value : ℕ) (new : List ℕ) (kept : base ≢ 6)
    (there : slot_number dev base < length old) (number : IsBaseNumber dev base)
    (long : length new ≡ length (held old dev base))
    (put : (k : ℕ) → k < length (held old dev base) →
    slice_index new k ≡ put_byte (held old dev base) off (bytes_of width) value k) where
  pub written : IsWritten old dev base off width value (set old (slot_number dev base) new)
  written = grind (arith, nat_tests, same_slot, get_or-set_at, get_or-set_other)

-- a write to an expansion ROM leaves all
pub lost : (contents : List (List ℕ)) (dev off : ℕ) (width : Width) (value : ℕ) →
    IsWritten contents dev 6 off width value contents
lost contents dev off width value = record { sizes = λ d b. refl; bytes = λ d b at number below. refl }

-- contents whose bytes are those after a write
pub stored_written :
    {old new : List (List ℕ)} {dev base off : ℕ} {width : Width} {value : ℕ} →
    IsWritten old dev base off width value new →
    (setup : Setup) (history : List Entry) (entry : Entry) (place : ℕ) → IsContentsOf setup history old →
    ((d b at : ℕ) → entry_put entry.event entry.reply (CardCell d b at)
    ≡ byte_put (Card dev base off) place width value (CardCell d b at)) →
    IsContentsOf setup (entry ∷ history) new
unfolding stored_of
stored_written {old} {new} written setup history entry place is wrote =
    contents_of (λ d b number. written.sizes d b ∙ is.sizes d b number)
    (λ d b at number kept within.
    let inside : at < length (held old d b) = omega (arith, within, written.sizes d b) in
    sym (held_within new d b at kept within)
    ∙ written.bytes d b at number inside
    ∙ rw (wrote d b at, held_within old d b at kept inside, stored_byte is d b at number kept inside) refl)

-- ---- as they begin

-- a base by its number among those of all devices
pub slot_of_base : (cards : List FittedCard) (dev base : ℕ) → IsBaseNumber dev base →
    slot_size cards (slot_number dev base) ≡ kept_size (find (λ card. card.dev == dev) cards) base
slot_of_base cards dev base number = grind (arith, nat_tests)

pub record IsFilled (cards : List FittedCard) (count : ℕ) (contents : List (List ℕ)) : Type 0 where
  pub long : length contents ≡ count
  pub each : (i : ℕ) → i < count → at_slot contents i ≡ replicate (slot_size cards i) 0

module _ (cards : List FittedCard) (contents : List (List ℕ)) (is : IsFilled cards 64 contents) where
  pub size_held : (dev base : ℕ) → IsBaseNumber dev base →
      length (held contents dev base) ≡ kept_size (find (λ card. card.dev == dev) cards) base
  size_held dev base number = grind (arith, nat_tests, length-replicate, slot_of_base)

  pub stored_at_first : (setup : Setup) → setup.cards ≡ cards → IsContentsOf setup [] contents
  unfolding stored_of
  stored_at_first setup same = grind (arith, nat_tests, size_held, zero_at, get_or_past)

-- ---- the buffers and their lists

abbrev pub lists : List (Vec ℕ Global) → List (List ℕ)
lists buffers = map (λ buffer. buffer.items) buffers

-- the buffer of a base, among buffers that are seen as these contents
pub record IsBuffer (buffers : List (Vec ℕ Global)) (contents : List (List ℕ)) (slot dev base : ℕ)
    (buffer : Vec ℕ Global) : Type 0 where
  pub view : lists buffers ≡ contents
  pub count : length buffers ≡ 64
  pub below : slot < 64
  pub number : slot ≡ slot_number dev base
  pub is : buffer ≡ get_or buffers slot buffer

module _ {buffers : List (Vec ℕ Global)} {contents : List (List ℕ)} {slot dev base : ℕ} {buffer : Vec ℕ Global}
    (at : IsBuffer buffers contents slot dev base buffer) where
  pub buffer_there : slot_number dev base < length contents
  buffer_there = grind (arith, nat_tests, length-map)

  pub buffer_held : held contents dev base ≡ buffer.items
  buffer_held = grind (arith, nat_tests, get_or-map)

  pub buffer_set : (bytes : List ℕ) → length bytes ≡ vec_len buffer →
      lists (set buffers slot (with_items buffer bytes)) ≡ set contents (slot_number dev base) bytes
  buffer_set bytes same = grind (arith, nat_tests, map-set, with_items_is)

-- ---- a stretch of bytes that is copied into a base

-- how the bytes of a base are written over from an offset on
abbrev pub stretch : (now copied : List ℕ) → (off count : ℕ) → List ℕ
stretch now copied off count = take off now ++ (copied ++ drop (off + count - off) (drop off now))

pub stretch_length : (now bytes copied : List ℕ) (off : ℕ) → off + length bytes ≤ length now → copied ≡ bytes →
    length (stretch now copied off (length bytes)) ≡ length now
stretch_length now bytes copied off fits is = grind (arith, nat_tests, length-append, length-drop, length-take-le)
