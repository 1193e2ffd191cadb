-- The state of the registers is spelled and read back.
use Rattle.std.proofs.Common.{◌≡◌, ℕ, zero, suc, ◌+◌, ◌*◌, ◌^◌, ◌<◌, ◌≤◌, List, [], ◌∷◌, ◌++◌, length, Option, None}
use Rattle.std.proofs.Common.{Result, Ok, refl, sym, ap, ◌∙◌, arith, slice_index, flat_map, get_or, take, drop, ◌-◌}
use Rattle.std.proofs.Common.{Err}
use Rattle.board_prelude.proofs.{AllByRecursion, All-cons, All-head, All-nil, All-tail, append-nil, get_or_past}
use Rattle.board_prelude.proofs.{drop_all, drop_at, drop_more, flat_map-cons, take_at, length-append, length-drop}
use Rattle.board_prelude.proofs.{length-take-le, take-append-drop, FittedCard}
use Rattle.byte_fields.proofs.Formats.{IsFormat, fields_format, ◌then◌, ◌&◌, last_field, whole_field, done_format}
use Rattle.byte_fields.proofs.Formats.{plain_format}
use Rattle.byte_fields.specs.Loads.{OneSpelling}
use Rattle.byte_fields.proofs.Loaded.{one_spelling}
use Rattle.byte_fields.proofs.Loops.{with_front, front_joined}
use Rattle.byte_fields.proofs.Numbers.{any_byte, any_number, number_to, wide32}
use Rattle.pci_bars.specs.Cards.{CardBytes}
use Rattle.addr_decode.specs.Singles.{single_count}
use Rattle.addr_decode.specs.State.{AreBases, bases_bytes, bases_fields, IsCardRegs, most_rom, card_bytes, card_fields}
use Rattle.addr_decode.specs.State.{AreCardRegs, cards_fields, AreMapRegs, regs_bytes, regs_fields}

-- ---- the bases

six : (bases : List ℕ) → length bases ≡ 6 →
    bases ≡ slice_index bases 0 ∷ slice_index bases 1 ∷ slice_index bases 2 ∷ slice_index bases 3 ∷ slice_index bases 4
    ∷ slice_index bases 5 ∷ []
six (a ∷ b ∷ c ∷ d ∷ e ∷ f ∷ []) long = refl
six _ long = absurd (omega (arith, long))

long_of : (bases : List ℕ) → AllByRecursion (λ n. n < 2 ^ 32) bases → (k : ℕ) → slice_index bases k < 2 ^ 32
long_of [] all k = omega (arith, get_or_past {X = ℕ} [] k 0 (omega arith))
long_of (base ∷ later) all zero = all.0
long_of (base ∷ later) all (suc k) = long_of later all.1 k

bases_format : IsFormat 24 bases_fields bases_bytes AreBases
unfolding bases_fields
bases_format =
    let base = any_number wide32 (omega arith) in
    fields_format
    (base then λ first good.
    base then λ second good.
    base then λ third good.
    base then λ fourth good.
    base then λ fifth good.
    last_field _ base)
    (λ bases are. (
      (slice_index bases 0, are.each 0) & (slice_index bases 1, are.each 1) & (slice_index bases 2, are.each 2)
          & (slice_index bases 3, are.each 3) & (slice_index bases 4, are.each 4) & (slice_index bases 5, are.each 5),
      six bases are.count,
    ))
    (λ t. (
      record {
        count = refl;
        each =
            long_of (t.0 ∷ t.2.0 ∷ t.2.2.0 ∷ t.2.2.2.0 ∷ t.2.2.2.2.0 ∷ t.2.2.2.2.2.0 ∷ [])
            (t.1, (t.2.1, (t.2.2.1, (t.2.2.2.1, (t.2.2.2.2.1, (t.2.2.2.2.2.1, tt))))));
      },
      refl,
    ))

-- ---- a card

most_small : (rom : Option ℕ) → most_rom rom < 2 ^ 32
most_small rom = grind arith

rom_to : (rom : Option ℕ) (n : ℕ) → n < 2 ^ 32 → (rom ≡ None → n ≡ 0) → n ≤ most_rom rom
rom_to rom n few none = grind arith

rom_from : (rom : Option ℕ) (n : ℕ) → n ≤ most_rom rom → (n < 2 ^ 32) × (rom ≡ None → n ≡ 0)
rom_from rom n few = grind arith

abbrev IsOwn : FittedCard → CardBytes → Type 0
IsOwn card regs = (regs.card ≡ card) × IsCardRegs regs

card_format : (card : FittedCard) → IsFormat 30 (card_fields card) card_bytes (IsOwn card)
unfolding card_fields
card_format card =
    fields_format
    (any_byte then λ command good.
    any_byte then λ line good.
    bases_format then λ bases good.
    last_field _ (number_to wide32 (most_rom card.rom) (most_small card.rom)))
    (λ c is. rw (← is.0) (
      (c.command, is.1.widths.command) & (c.line, is.1.widths.line) & (c.bases, is.1.widths.bases)
          & (c.rom, rom_to c.card.rom c.rom is.1.widths.rom is.1.no_rom),
      refl,
    ))
    (λ t.
    let rom = rom_from card.rom t.2.2.2.0 t.2.2.2.1 in (
      (refl, record { widths = record { command = t.1; line = t.2.1; bases = t.2.2.1; rom = rom.0 }; no_rom = rom.1 }),
      refl,
    ))

-- ---- the cards

cards_to : (card : FittedCard) (later : List FittedCard) (cards : List CardBytes) → AreCardRegs (card ∷ later) cards →
    (t : (first : CardBytes) × IsOwn card first × ((others : List CardBytes) × AreCardRegs later others))
    × (cards ≡ t.0 ∷ t.2.0)
cards_to card later [] are = absurd cc
cards_to card later (first ∷ others) are = (
  (first, (cc, All-head IsCardRegs first others are.each))
      & (others, record { same = cc; each = All-tail IsCardRegs first others are.each }),
  refl,
)

no_cards : (cards : List CardBytes) → AreCardRegs [] cards → cards ≡ []
no_cards [] are = refl
no_cards (card ∷ later) are = absurd cc

cards_format : (fitted : List FittedCard) →
    IsFormat (30 * length fitted) (cards_fields fitted) (flat_map card_bytes) (AreCardRegs fitted)
unfolding cards_fields
cards_format [] =
    fields_format (whole_field (done_format [])) (λ cards are. (([], refl), no_cards cards are))
    (λ t. rw t.1 (record { same = refl; each = All-nil IsCardRegs }, refl))
cards_format (card ∷ later) =
    let size : 30 * suc (length later) ≡ 30 + 30 * length later = omega arith in
    rw size
    (fields_format (card_format card then λ first good. last_field _ (cards_format later)) (cards_to card later)
    (λ t. (
      record { same = rw (t.1.0, ← t.2.1.same) refl; each = All-cons IsCardRegs t.0 t.2.0 t.1.1 t.2.1.each },
      flat_map-cons card_bytes t.0 t.2.0,
    )))

-- ---- the whole

-- how many bytes they take
abbrev pub regs_size : List FittedCard → ℕ
regs_size fitted = 15 + single_count + 30 * length fitted

pub regs_format : (fitted : List FittedCard) →
    IsFormat (regs_size fitted) (regs_fields fitted) regs_bytes (AreMapRegs fitted)
unfolding regs_fields
regs_format fitted =
    let size : regs_size fitted ≡ 8 + (1 + (7 + ((single_count - 1) + 30 * length fitted))) = omega arith in
    rw size
    (fields_format
    (plain_format 8 then λ drb good.
    plain_format 1 then λ first good.
    plain_format 7 then λ pam good.
    plain_format (single_count - 1) then λ others good.
    last_field _ (cards_format fitted))
    (λ r are. (
      (r.drb, are.drb) & (take 1 r.singles, length-take-le 1 r.singles (omega (arith, are.singles)))
          & (r.pam, are.pam) & (drop 1 r.singles, omega (arith, length-drop 1 r.singles, are.singles))
          & (r.cards.items, are.cards),
      ap (λ (held : List ℕ). record r { singles = held }) (sym (take-append-drop 1 r.singles)),
    ))
    (λ t. (
      record {
        drb = t.1;
        pam = t.2.2.1;
        singles = omega (arith, length-append t.2.0 t.2.2.2.0, t.2.1, t.2.2.2.1);
        cards = t.2.2.2.2.1;
      },
      rw (take_at t.2.0 t.2.2.2.0 1 t.2.1, drop_at t.2.0 t.2.2.2.0 1 t.2.1) refl,
    )))

pub one_map_regs : (fitted : List FittedCard) → OneSpelling regs_bytes (AreMapRegs fitted)
one_map_regs fitted = one_spelling (regs_format fitted)

-- ---- the loop over the cards

module _ (fitted : List FittedCard) (i : ℕ) (front : List CardBytes) (now : List ℕ)
    (total : Result (List CardBytes × List ℕ) ℕ)
    (so_far : with_front front (cards_fields (drop i fitted) now) ≡ total) where
  module _ (own : FittedCard) (below : i < length fitted) (at_i : own ≡ get_or fitted i own) where
    still : drop i fitted ≡ own ∷ drop (i + 1) fitted
    still = let left = drop_more fitted i own below in cc

    -- one card more
    pub one_more_read : (after : List ℕ) (card : CardBytes) → card_fields own now ≡ Ok (card, after) →
        with_front (front ++ card ∷ []) (cards_fields (drop (i + 1) fitted) after) ≡ total
    unfolding cards_fields
    one_more_read after card is =
        sym (front_joined front card (cards_fields (drop (i + 1) fitted) after)) ∙ (rw (still, is) at so_far)

    -- a card that is bad
    pub one_bad : (bad : ℕ) → card_fields own now ≡ Err bad → total ≡ Err bad
    unfolding cards_fields
    one_bad bad is = sym (rw (still, is) at so_far)

  -- and all of them
  pub all_read : length fitted ≤ i → total ≡ Ok (front, now)
  unfolding cards_fields
  all_read over = sym (rw (drop_all i fitted over, append-nil front) at so_far)
