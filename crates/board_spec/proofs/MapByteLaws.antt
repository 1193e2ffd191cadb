-- Areas and denials depend on the map bytes alone.
use Rattle.std.proofs.Common.{◌≡◌, ℕ, zero, suc, ◌+◌, ◌<◌, ◌≤◌, Bool, true, not, List, [], ◌∷◌, length, get_or, Option}
use Rattle.std.proofs.Common.{refl, ◌∙◌, ap, arith, ◌==◌, is_some, find, flat_map, if◌then◌else◌}
use Rattle.std.specs.List.{AllByRecursion, enumerate_from}
use Rattle.board_base.specs.declared.access.Kind.{Kind}
use Rattle.board_spec.specs.Setup.{Base, FittedCard, Setup, IsCardList, Rises, card_at}
use Rattle.board_spec.specs.MapWrites.{has_rom}
use Rattle.board_spec.specs.Decode.{Bytes, boundary, row_of, is_shadowed, Window, base_value, memory_window, vga_window}
use Rattle.board_spec.specs.Decode.{memory_windows, rom_window, rom_window_of, is_rom_on, unselected_windows}
use Rattle.board_spec.specs.Decode.{rom_unselected, is_enabled_for, first_window, memory_claim, memory_shut, area_of}
use Rattle.board_spec.specs.Decode.{denial_of}
use Rattle.board_spec.specs.Laws.{SameMapBytes, MapBytesDecide}
use Rattle.std.proofs.lemmas.Bool.Decides.{nat_tests}
use Rattle.std.proofs.lemmas.List.Elements.{recursion_from_All}
use Rattle.std.proofs.lemmas.List.Folds.{find-append}

-- ---- the cards

-- each card of a list is found by its device number
found : (cards : List FittedCard) (k : ℕ) (d : FittedCard) → k < length cards →
    is_some (find (λ card. card.dev == (get_or cards k d).dev) cards) ≡ true
found [] k d below = absurd (omega arith)
found (card ∷ later) zero d below = grind (arith, nat_tests)
found (card ∷ later) (suc k) d below = grind (arith, nat_tests, found later k d)

-- a card that is found by its device number, with the ROM of the card
found_rom : (cards : List FittedCard) → Rises cards → (k : ℕ) (d : FittedCard) → k < length cards →
    has_rom (find (λ card. card.dev == (get_or cards k d).dev) cards) ≡ is_some (get_or cards k d).rom
found_rom [] rises k d below = absurd (omega arith)
found_rom (card ∷ later) rises zero d below = grind (arith, nat_tests)
found_rom (card ∷ later) rises (suc k) d below = grind (arith, nat_tests, rises.0 k d, found_rom later rises.1 k d)

module _ (setup : Setup) (bytes other : Bytes) (same : SameMapBytes setup bytes other) where
  -- ---- rows and windows of the host bridge

  boundary_same : (row : ℕ) → row < 8 → boundary bytes row ≡ boundary other row
  boundary_same row below = grind (arith, nat_tests)

  row_same : (addr : ℕ) → row_of bytes addr ≡ row_of other addr
  unfolding row_of
  row_same addr = grind (arith, nat_tests, boundary_same)

  shadow_same : (addr : ℕ) (kind : Kind) → is_shadowed bytes addr kind ≡ is_shadowed other addr kind
  shadow_same addr kind = grind (arith, nat_tests)

  -- ---- windows of the cards

  abbrev IsFitted : ℕ → Type 0
  IsFitted dev = is_some (card_at setup dev) ≡ true

  -- the register of an expansion ROM
  abbrev HasRom : ℕ → Type 0
  HasRom dev = has_rom (card_at setup dev) ≡ true

  base_same : (dev k : ℕ) → IsFitted dev → k < 6 → base_value bytes dev k ≡ base_value other dev k
  base_same dev k fitted below = grind (arith, nat_tests)

  -- the windows of an expansion ROM, where it is selected and where it is not
  abbrev rom_where : Bytes → FittedCard → List Window
  rom_where registers card = if is_rom_on registers card.dev then rom_window registers card else []

  roms_same : (card : FittedCard) → (is_some card.rom ≡ true → HasRom card.dev) →
      (rom_where bytes card ≡ rom_where other card) × (unselected_windows bytes card ≡ unselected_windows other card)
  roms_same card has = grind (arith, nat_tests)

  enabled_same : (dev : ℕ) → IsFitted dev → is_enabled_for 1 bytes dev ≡ is_enabled_for 1 other dev
  enabled_same dev fitted = grind (arith, nat_tests)

  -- ---- which card answers, and which would

  -- two searches that count the same fitted cards
  module _ (addr : ℕ) (counts counts' : ℕ → Bool) (agree : (dev : ℕ) → IsFitted dev → counts dev ≡ counts' dev) where
    abbrev SameFound : (left right : List Window) → Type 0
    SameFound left right = first_window counts addr left ≡ first_window counts' addr right

    base_found : (dev k : ℕ) (base : Base) → IsFitted dev → k < 6 →
        SameFound (memory_window bytes dev k base) (memory_window other dev k base)
    base_found dev k base fitted below = grind (arith, base_same dev k fitted, agree dev fitted)

    abbrev windows_from : Bytes → (dev first : ℕ) → List Base → List Window
    windows_from registers dev first bases = flat_map (λ numbered. memory_window registers dev numbered.0 numbered.1)
        (enumerate_from first bases)

    bases_found : (dev first : ℕ) (bases : List Base) → IsFitted dev → first + length bases ≤ 6 →
        SameFound (windows_from bytes dev first bases) (windows_from other dev first bases)
    bases_found dev first [] fitted count = refl
    bases_found dev first (base ∷ later) fitted count =
        let rest = bases_found dev (first + 1) later fitted (omega arith) in
        simp (find-append, base_found dev first base fitted (omega arith), rest)

    record IsFound (card : FittedCard) : Type 0 where
      pub windows : SameFound (memory_windows bytes card) (memory_windows other card)
      pub unselected : SameFound (unselected_windows bytes card) (unselected_windows other card)

    rom_found : (on : Bool) (dev : ℕ) (rom : Option ℕ) → IsFitted dev →
        SameFound (if on then rom_window_of other dev rom else []) (if on then rom_window_of other dev rom else [])
        × SameFound (if on then [] else rom_window_of other dev rom) (if on then [] else rom_window_of other dev rom)
    rom_found on dev rom fitted = grind (arith, agree dev fitted)

    card_found : (card : FittedCard) → IsFitted card.dev → (is_some card.rom ≡ true → HasRom card.dev) →
        length card.bases ≤ 6 → IsFound card
    card_found card fitted has count =
        let roms = roms_same card has in
        let found_roms = rom_found (is_rom_on other card.dev) card.dev card.rom fitted in
        let rom : SameFound (rom_where bytes card) (rom_where other card) = rw roms.0 found_roms.0 in
        let vga : SameFound (vga_window card) (vga_window card) = grind (arith, agree card.dev fitted) in
        record {
          windows = simp (find-append, bases_found card.dev 0 card.bases fitted (omega arith), rom, vga);
          unselected = rw roms.1 found_roms.1;
        }

    all_found : (left right : FittedCard → List Window) (cards : List FittedCard) →
        AllByRecursion (λ card. SameFound (left card) (right card)) cards →
        SameFound (flat_map left cards) (flat_map right cards)
    all_found left right [] each = refl
    all_found left right (card ∷ later) each = simp (find-append, each.0, all_found left right later each.1)

    cards_found : IsCardList setup.cards →
        SameFound (flat_map (memory_windows bytes) setup.cards) (flat_map (memory_windows other) setup.cards)
        × SameFound (flat_map (unselected_windows bytes) setup.cards) (flat_map (unselected_windows other) setup.cards)
    cards_found list =
        let each : (k : ℕ) (d : FittedCard) → k < length setup.cards → IsFound (get_or setup.cards k d) = λ k d below.
        card_found (get_or setup.cards k d) (found setup.cards k d below)
        (λ some. found_rom setup.cards list.rises k d below ∙ some) (list.each k d below).count in (
          all_found (memory_windows bytes) (memory_windows other) setup.cards
              (recursion_from_All (λ card. SameFound (memory_windows bytes card) (memory_windows other card))
              setup.cards (λ k d below. (each k d below).windows)),
          all_found (unselected_windows bytes) (unselected_windows other) setup.cards
              (recursion_from_All (λ card. SameFound (unselected_windows bytes card) (unselected_windows other card))
              setup.cards (λ k d below. (each k d below).unselected)),
        )

  claim_same : (addr : ℕ) → IsCardList setup.cards → memory_claim setup bytes addr ≡ memory_claim setup other addr
  unfolding memory_claim
  claim_same addr list = (cards_found addr (is_enabled_for 1 bytes) (is_enabled_for 1 other) enabled_same list).0

  shut_same : (addr : ℕ) → IsCardList setup.cards → memory_shut setup bytes addr ≡ memory_shut setup other addr
  unfolding memory_shut
  shut_same addr list =
      (cards_found addr (λ dev. not (is_enabled_for 1 bytes dev)) (λ dev. not (is_enabled_for 1 other dev))
      (λ dev fitted. ap (λ enabled. not enabled) (enabled_same dev fitted)) list).0

  not_selected_same : (addr : ℕ) → IsCardList setup.cards →
      rom_unselected setup bytes addr ≡ rom_unselected setup other addr
  unfolding rom_unselected
  not_selected_same addr list = (cards_found addr (is_enabled_for 1 bytes) (is_enabled_for 1 other) enabled_same list).1

  -- ---- areas and denials

  area_same : (addr : ℕ) (kind : Kind) (smm : Bool) → IsCardList setup.cards →
      area_of setup bytes addr kind smm ≡ area_of setup other addr kind smm
  unfolding area_of
  area_same addr kind smm list = grind (arith, row_same addr, shadow_same addr kind, claim_same addr list, same)

  denial_same : (addr : ℕ) (kind : Kind) (smm : Bool) → IsCardList setup.cards →
      denial_of setup bytes addr kind smm ≡ denial_of setup other addr kind smm
  unfolding denial_of
  denial_same addr kind smm list =
      grind (arith, area_same addr kind smm list, boundary_same, shut_same addr list, not_selected_same addr list)

pub map_bytes_decide : MapBytesDecide
map_bytes_decide setup bytes other list same addr kind smm =
    (area_same setup bytes other same addr kind smm list, denial_same setup bytes other same addr kind smm list)
