-- The fields of cards.
use Rattle.std.proofs.Common.{◌≡◌, ℕ, ◌+◌, ◌-◌, ◌*◌, ◌^◌, ◌<◌, ◌≤◌, List, [], ◌∷◌, length, Option, Some, refl, ◌↔◌, Bool, true}
use Rattle.std.proofs.Common.{false, sym}
use Rattle.std.proofs.Common.{arith, map, flat_map, sum_by, All, unwrap_or}
use Rattle.board_prelude.proofs.{AllByRecursion, flat_map-cons, recursion_from_All, sum_by-cons, sum_by-append, Base}
use Rattle.board_prelude.proofs.{FittedCard, IsBase, IsCard, IsExpansionRom, Rises, memory_of_cards, memory_size}
use Rattle.board_prelude.proofs.{nat_tests, MemoryBase, IoBase, OutsideBase}
use Rattle.std.proofs.lemmas.List.Elements.{All-from_recursion}
use Rattle.std.proofs.lemmas.List.Concat.{flat_map_single}
use Rattle.board_image.specs.ImageFields.{base_in, base_of_byte, has_room, can_stand, rom_of, bases_fields, card_fields}
use Rattle.board_image.specs.ImageFields.{cards_fields}
use Rattle.board_image.specs.ImageBytes.{base_byte, card_bytes}
use Rattle.byte_fields.proofs.Formats.{IsFormat, format_as, fields_format, ◌then◌, ◌&◌, last_field, many_format}
use Rattle.byte_fields.proofs.Formats.{AreGood}
use Rattle.byte_fields.proofs.Numbers.{flag_format, byte_format, byte_within, where_ok, Ranges}
use Rattle.board_image.proofs.ImageLoops.{base_field, room_after, bases_loop, card_after, past_card, cards_loop}

-- ---- bases

-- a base can stand there
abbrev pub CanStand : (outside : Bool) → Base → Type 0
CanStand outside base = can_stand outside base ≡ true

abbrev pub IsBaseIn : (outside : Bool) (room : ℕ) → Base → Type 0
IsBaseIn outside room base = IsBase base × (memory_size base ≤ room) × CanStand outside base

base_said : (outside : Bool) (room : ℕ) (base : Base) → IsBaseIn outside room base →
    (base_byte base < 2 ^ 8) × (base_in outside room (base_byte base) ≡ Some base)
base_said true room (MemoryBase bits) is = grind (arith, nat_tests)
base_said true room (IoBase bits) is = grind (arith, nat_tests)
base_said true room (OutsideBase bits) is = grind (arith, nat_tests)
base_said false room (MemoryBase bits) is = grind (arith, nat_tests)
base_said false room (IoBase bits) is = grind (arith, nat_tests)
base_said false room (OutsideBase bits) is = grind (arith, nat_tests)

room_is : (outside : Bool) (room : ℕ) (base : Base) → has_room outside room base ≡ true → IsBaseIn outside room base
room_is true room (MemoryBase bits) is = grind (arith, nat_tests)
room_is true room (IoBase bits) is = grind (arith, nat_tests)
room_is true room (OutsideBase bits) is = grind (arith, nat_tests)
room_is false room (MemoryBase bits) is = grind (arith, nat_tests)
room_is false room (IoBase bits) is = grind (arith, nat_tests)
room_is false room (OutsideBase bits) is = grind (arith, nat_tests)

byte_again : (n : ℕ) → n < 2 ^ 8 → base_byte (base_of_byte n) ≡ n
byte_again n below = grind (arith, nat_tests)

base_told : (outside : Bool) (room n : ℕ) (base : Base) → n < 2 ^ 8 → base_in outside room n ≡ Some base →
    (n ≡ base_byte base) × IsBaseIn outside room base
base_told outside room n base below is =
    let told = where_ok (has_room outside room (base_of_byte n)) (base_of_byte n) base is in
    rw (← told.1) (sym (byte_again n below), room_is outside room (base_of_byte n) told.0)

base_format : (outside : Bool) (room : ℕ) →
    IsFormat 1 (base_field outside room) (λ base. base_byte base ∷ []) (IsBaseIn outside room)
base_format outside room =
    byte_format base_byte (IsBaseIn outside room) (base_said outside room) (base_told outside room)

-- bases that fit in the room
abbrev pub AreBasesIn : (outside : Bool) (room : ℕ) → List Base → Type 0
AreBasesIn outside room bases =
    All IsBase bases × (sum_by memory_size bases ≤ room) × All (CanStand outside) bases

bases_are : (outside : Bool) (bases : List Base) (room : ℕ) →
    AreGood room_after (IsBaseIn outside) room bases
    ↔ (AllByRecursion IsBase bases × (sum_by memory_size bases ≤ room) × AllByRecursion (CanStand outside) bases)
bases_are outside [] room = grind (arith, nat_tests)
bases_are outside (base ∷ later) room =
    let whole = sum_by-cons memory_size base later in
    let rest = bases_are outside later (room - memory_size base) in
    (λ good. grind (arith, nat_tests), λ is. grind (arith, nat_tests))

bases_format : (outside : Bool) (room count : ℕ) → count ≤ 6 →
    IsFormat 6 (bases_fields outside count room) (map base_byte)
    (λ bases. (length bases ≡ count) × AreBasesIn outside room bases)
bases_format outside room count few =
    format_as 6 _ (λ bases. (length bases ≡ count) × AreBasesIn outside room bases)
    (many_format (bases_loop outside) (base_format outside) room count) (omega arith)
    (λ bases is.
    let each = recursion_from_All IsBase bases is.1.0 in
    let stand = recursion_from_All (CanStand outside) bases is.1.2 in
    (is.0, (bases_are outside bases room).1 (each, is.1.1, stand)))
    (λ bases good.
    let all = (bases_are outside bases room).0 good.1 in
    (good.0, (All-from_recursion IsBase bases all.0, all.1, All-from_recursion (CanStand outside) bases all.2)))
    (λ bases good. flat_map_single base_byte bases)

-- ---- an expansion ROM

rom_said : (rom : Option ℕ) → IsExpansionRom rom → (unwrap_or rom 0 < 2 ^ 8) × (rom_of (unwrap_or rom 0) ≡ Some rom)
rom_said rom is = grind (arith, nat_tests)

rom_told : (n : ℕ) (rom : Option ℕ) → n < 2 ^ 8 → rom_of n ≡ Some rom → (n ≡ unwrap_or rom 0) × IsExpansionRom rom
rom_told n rom below is = grind (arith, nat_tests)

-- ---- cards

-- a card after one at this device number, where there is this room
abbrev pub IsCardAfter : (outside : Bool) → ℕ × ℕ → FittedCard → Type 0
IsCardAfter outside before card =
    Ranges (before.0 + 1) 9 card.dev × IsExpansionRom card.rom × Ranges 0 6 (length card.bases)
    × AreBasesIn outside before.1 card.bases

card_format : (outside : Bool) (before : ℕ × ℕ) →
    IsFormat 10 (card_after outside before) card_bytes (IsCardAfter outside before)
unfolding card_fields card_bytes
card_format outside before =
    fields_format
    (byte_within (before.0 + 1) 9 (omega arith) then λ dev good.
    flag_format then λ vga any.
    (byte_format (λ rom. unwrap_or rom 0) IsExpansionRom rom_said rom_told) then λ rom good.
    byte_within 0 6 (omega arith) then λ count few.
    last_field (λ bases. record { dev = dev; vga = vga; bases = bases; rom = rom })
    (bases_format outside before.1 count few.1))
    (λ card is. (
      (card.dev, is.0) & (card.vga, tt) & (card.rom, is.1) & (length card.bases, is.2) & (card.bases, (refl, is.3)),
      refl,
    ))
    (λ t.
    let long = t.2.2.2.2.1.0 in
    ((t.1, t.2.2.1, rw long t.2.2.2.1, t.2.2.2.2.1.1), rw long refl))

memory_of_more : (card : FittedCard) (later : List FittedCard) →
    memory_of_cards (card ∷ later) ≡ sum_by memory_size card.bases + memory_of_cards later
memory_of_more card later =
    rw (flat_map-cons (λ (card : FittedCard). card.bases) card later)
    (sum_by-append memory_size card.bases (flat_map (λ card. card.bases) later))

abbrev LiesAbove : ℕ → FittedCard → Type 0
LiesAbove above card = above < card.dev

higher : (low high : ℕ) (cards : List FittedCard) → low ≤ high → AllByRecursion (LiesAbove high) cards →
    AllByRecursion (LiesAbove low) cards
higher low high [] rises all = tt
higher low high (card ∷ later) rises all = (omega (arith, rises, all.0), higher low high later rises all.1)

-- the bases of a card can stand there
abbrev pub CanStandAll : (outside : Bool) → FittedCard → Type 0
CanStandAll outside card = All (CanStand outside) card.bases

-- what cards that are good one after another are together
record AreCards (outside : Bool) (cards : List FittedCard) (above room : ℕ) : Type 0 where
  pub each : AllByRecursion IsCard cards
  pub high : AllByRecursion (LiesAbove above) cards
  pub rise : Rises cards
  pub fit : memory_of_cards cards ≤ room
  pub stand : AllByRecursion (CanStandAll outside) cards

cards_are : (outside : Bool) (cards : List FittedCard) (above room : ℕ) → 1 ≤ above →
    AreGood past_card (IsCardAfter outside) (above, room) cards ↔ AreCards outside cards above room
cards_are outside [] above room some = grind (arith, nat_tests)
cards_are outside (card ∷ later) above room some =
    let whole = memory_of_more card later in
    let one = memory_of_more card [] in
    let rest = cards_are outside later card.dev (room - memory_of_cards (card ∷ [])) in (
      λ good.
          let more = (rest (omega (arith, some, good.0.0.0))).0 good.1 in
          let all_above = higher above card.dev later (omega (arith, good.0.0.0)) more.high in
          let rises = All-from_recursion (LiesAbove card.dev) later more.high in
          grind (arith, nat_tests),
      λ are.
          let high = recursion_from_All (LiesAbove card.dev) later are.rise.0 in
          let more = (rest (omega (arith, are.each.0.first))).1 (grind (arith, nat_tests)) in
          grind (arith, nat_tests),
    )

-- ---- all cards of a board

abbrev pub AreCardsOf : (outside : Bool) (count room : ℕ) → List FittedCard → Type 0
AreCardsOf outside count room cards =
    (length cards ≡ count) × All IsCard cards × Rises cards × (memory_of_cards cards ≤ room)
    × All (CanStandAll outside) cards

two_or_more : (cards : List FittedCard) → AllByRecursion IsCard cards → AllByRecursion (LiesAbove 1) cards
two_or_more [] all = tt
two_or_more (card ∷ later) all = (omega (arith, all.0.first), two_or_more later all.1)

pub cards_format : (outside : Bool) (count room : ℕ) →
    IsFormat (10 * count) (cards_fields outside count 1 room) (flat_map card_bytes) (AreCardsOf outside count room)
cards_format outside count room =
    format_as _ _ _ (many_format (cards_loop outside) (card_format outside) (1, room) count) (omega arith)
    (λ cards are.
    let all = recursion_from_All IsCard cards are.1 in
    let them : AreCards outside cards 1 room = record {
      each = all;
      high = two_or_more cards all;
      rise = are.2;
      fit = are.3;
      stand = recursion_from_All (CanStandAll outside) cards are.4;
    } in
    (are.0, (cards_are outside cards 1 room (omega arith)).1 them))
    (λ cards good.
    let are = (cards_are outside cards 1 room (omega arith)).0 good.1 in (
      good.0,
      All-from_recursion IsCard cards are.each,
      are.rise,
      are.fit,
      All-from_recursion (CanStandAll outside) cards are.stand,
    ))
    (λ cards good. refl)

-- in the bytes of a running board each base can stand
pub stand_anywhere : (cards : List FittedCard) → All (CanStandAll true) cards
stand_anywhere cards = λ i card under k base below. refl
