-- Registers of the address map are those of some board, whatever its other registers hold: each stands for a byte of
-- its own.
use Rattle.board_prelude.proofs.{common_steps, option_map_or, get_or-map, length-map, nat_tests, Setup, Rises, IsCard}
use Rattle.board_prelude.proofs.{IsCardList, byte, is_within, card_register, bridge, Bytes, Reg}
use Rattle.std.proofs.Common.{ne_eqb, ◌≡◌, ℕ, zero, suc, ◌+◌, ◌-◌, ◌*◌, ◌/◌, ◌%◌, ◌^◌, ◌<◌, ◌≤◌, List, [], ◌∷◌, length}
use Rattle.std.proofs.Common.{get_or, Option, Some, None, refl, ◌∙◌, arith, ◌==◌, nat_lt, if◌then◌else◌, false, ◌&&◌}
use Rattle.std.proofs.Common.{All, find, is_some, slice_index}
use Rattle.pci_bars.specs.Cards.{CardBytes, HoldsLong, HoldsRom, DecodesAs, AreFitted, cards_of}
use Rattle.std.proofs.lemmas.List.Elements.{All-map}
use Rattle.pci_bars.proofs.CardListLemmas.{find-cards}
use Rattle.addr_decode.specs.MapRegs.{MapBytes, StandsFor}
use Rattle.addr_decode.specs.Singles.{AreSinglesOf, single_number}
use Rattle.addr_decode.proofs.SingleLemmas.{numbered, block_unnumbered, card_unnumbered}
use Rattle.map_builder.specs.Map.{IsOfSomeBoard, HoldsDoublewords, HaveWidths}

-- ---- these registers at their places, and other bytes elsewhere

pub bridge_byte : MapBytes → ℕ → ℕ
bridge_byte regs off = if nat_lt off 0x60 then slice_index regs.pam (off - 0x59) else slice_index regs.drb (off - 0x60)

pub card_byte : (other off : ℕ) → CardBytes → ℕ
card_byte other off card =
    if off == 0x04 then card.command else
    if is_within 0x10 0x27 off then byte (slice_index card.bases ((off - 0x10) / 4)) ((off - 0x10) % 4) else
    if is_some card.card.rom && is_within 0x30 0x33 off then byte card.rom (off - 0x30) else other

pub card_with : ℕ → List CardBytes → Option CardBytes
card_with dev cards = find (λ card. card.card.dev == dev) cards

-- where no register of one byte stands
abbrev pub beside_singles : MapBytes → (others : Bytes) → Bytes
beside_singles regs others reg =
    if reg.dev == 0 then bridge_byte regs reg.off else
    if reg.dev == 1 then others reg
    else option_map_or (card_byte (others reg) reg.off) (card_with reg.dev regs.cards) (others reg)

unfoldable pub overlaid : MapBytes → (others : Bytes) → Bytes
overlaid regs others reg = option_map_or (slice_index regs.singles) (single_number reg) (beside_singles regs others reg)

unnumbered : (regs : MapBytes) (others : Bytes) (reg : Reg) → single_number reg ≡ None →
    overlaid regs others reg ≡ beside_singles regs others reg
unfolding overlaid
unnumbered regs others reg none = rw none refl

-- ---- the bridges

rows_stand : (regs : MapBytes) (others : Bytes) (row : ℕ) → row < 8 →
    slice_index regs.drb row ≡ overlaid regs others (bridge (0x60 + row))
unfolding bridge_byte
rows_stand regs others row below = grind (arith, nat_tests, common_steps, nat_lt, unnumbered, bridge, block_unnumbered)

singles_stand : (regs : MapBytes) (others : Bytes) → AreSinglesOf (overlaid regs others) regs.singles
unfolding overlaid
singles_stand regs others k below = rw (numbered k below) refl

-- ---- the cards

pub found : (cards : List CardBytes) → Rises (cards_of cards) → (k : ℕ) (d : CardBytes) → k < length cards →
    card_with (get_or cards k d).card.dev cards ≡ Some (get_or cards k d)
unfolding card_with
found [] rises k d within = absurd (omega arith)
found (card ∷ later) rises zero d within = grind (arith, nat_tests)
found (card ∷ later) rises (suc k) d within =
    let above = rises.0 k d.card in
    grind (arith, nat_tests, get_or-map, length-map, above, found later rises.1 k d)

rom_byte : (other : ℕ) (card : CardBytes) (bits j : ℕ) → card.card.rom ≡ Some bits → j < 4 →
    card_byte other (0x30 + j) card ≡ byte card.rom j
unfolding card_byte
rom_byte other card bits j is below = grind (arith, nat_tests)

-- four registers that hold the bytes of a doubleword hold it
long_held : (bytes : Bytes) (dev from value : ℕ) → value < 2 ^ 32 →
    ((j : ℕ) → j < 4 → bytes (card_register dev (from + j)) ≡ byte value j) →
    HoldsLong bytes (card_register dev from) value
long_held bytes dev from value below each = grind (arith, nat_tests)

-- a card that is found
module _ (regs : MapBytes) (others : Bytes) (card : CardBytes) (fit : IsCard card.card)
    (there : card_with card.card.dev regs.cards ≡ Some card) where
  stands : (off : ℕ) → overlaid regs others (card_register card.card.dev off)
      ≡ card_byte (others (card_register card.card.dev off)) off card
  stands off = grind (arith, nat_tests, common_steps, unnumbered, card_register, card_unnumbered, ne_eqb)

  -- what is no part of the map
  pub other_stands : (off : ℕ) → (off == 0x04) ≡ false → is_within 0x10 0x27 off ≡ false →
      (is_some card.card.rom && is_within 0x30 0x33 off) ≡ false →
      overlaid regs others (card_register card.card.dev off) ≡ others (card_register card.card.dev off)
  unfolding card_byte
  other_stands off no_command no_base no_rom = stands off ∙ rw (no_command, no_base, no_rom) refl

  rom_held : (rom : Option ℕ) → card.card.rom ≡ rom → card.rom < 2 ^ 32 →
      HoldsRom (overlaid regs others) card.card.dev card.rom rom
  rom_held None is below = tt
  rom_held (Some bits) is below = long_held _ _ _ _ below (λ j few. stands (0x30 + j) ∙ rom_byte _ card _ j is few)

  pub decodes : (setup : Setup) → setup.cards ≡ cards_of regs.cards → HoldsDoublewords card →
      DecodesAs setup (overlaid regs others) card
  unfolding card_byte card_with
  decodes setup same doublewords = record {
    fitted = rw (same, ← find-cards regs.cards card.card.dev, there) refl;
    command = stands 0x04;
    bases = λ k few.
        long_held _ _ _ _ (doublewords.bases k) (λ j below. stands (0x10 + 4 * k + j) ∙ grind (arith, nat_tests));
    rom = rom_held _ refl doublewords.rom;
  }

-- ---- all of them

pub overlaid_stands : (setup : Setup) (regs : MapBytes) (others : Bytes) → setup.cards ≡ cards_of regs.cards →
    AreFitted regs.cards → All HoldsDoublewords regs.cards → StandsFor setup (overlaid regs others) regs
unfolding bridge_byte
overlaid_stands setup regs others same fitted doublewords = record {
  rows = rows_stand regs others;
  windows = λ off within. grind (arith, nat_tests, common_steps, nat_lt, unnumbered, bridge, block_unnumbered);
  singles = singles_stand regs others;
  cards = (
    same,
    (λ k d within.
        decodes regs others (get_or regs.cards k d) (fitted.each k d within)
        (found regs.cards fitted.rises k d within) setup same (doublewords k d within)),
  );
}

fitted_cards : (regs : MapBytes) → length regs.cards ≤ 8 → AreFitted regs.cards → IsCardList (cards_of regs.cards)
fitted_cards regs few fitted = record {
  count = omega (arith, length-map regs.cards (λ (it : CardBytes). it.card));
  each = All-map IsCard (λ (it : CardBytes). it.card) regs.cards fitted.each;
  rises = fitted.rises;
}

-- the registers of cards that can be fitted to a board are those of a board, which has 0 in all others
pub has_board : (regs : MapBytes) → AreFitted regs.cards → HaveWidths regs → IsOfSomeBoard regs
has_board regs fitted widths =
    let setup : Setup = record { mib = 1; cards = cards_of regs.cards; rom = []; disk = None } in
    record {
      setup = setup;
      bytes = overlaid regs (λ reg. 0);
      cards = fitted_cards regs widths.count fitted;
      top = omega (arith, rows_stand regs (λ reg. 0) 7 (omega arith), widths.rows 7);
      stands = overlaid_stands setup regs (λ reg. 0) refl fitted (λ k d within. widths.cards k d within);
    }
