-- Registers of the right number and widths are those of a board of their setup: each stands for a byte of its own.
use Rattle.std.proofs.Common.{◌≡◌, ℕ, ◌-◌, List, [], ◌∷◌, length, get_or, Some, None, refl, ◌∙◌, arith, ◌==◌}
use Rattle.std.proofs.Common.{if◌then◌else◌, All, is_some, slice_index, map}
use Rattle.board_prelude.proofs.{and-false, option_map_or, Setup, IsCard, Bytes, reset_byte, ide, nat_tests}
use Rattle.pci_bars.specs.Cards.{CardBytes, IsCardOf, cards_of}
use Rattle.addr_decode.specs.MapRegs.{MapBytes}
use Rattle.map_builder.specs.Map.{HoldsDoublewords}
use Rattle.map_builder.proofs.BoardLemmas.{card_with, found, overlaid, other_stands, decodes, overlaid_stands}
use Rattle.config_regs.specs.declared.south.South.{South}
use Rattle.config_regs.specs.Config.{AreKeptOf, IsSouthOf}
use Rattle.board_chipset.specs.declared.registers.Registers.{Registers}
use Rattle.board_chipset.specs.ChipsetState.{AreRegisters}

-- without an expansion ROM its register is 0
abbrev HasNoRom : CardBytes → Type 0
HasNoRom card = card.card.rom ≡ None → card.rom ≡ 0

-- ---- the bytes

ide_kept : Setup → South → ℕ → ℕ
ide_kept setup south off =
    if off == 0x04 then south.ide.command else
    if off == 0x40 then south.ide.timing_low else
    if off == 0x41 then south.ide.timing_high else reset_byte setup (ide off)

line_kept : MapBytes → ℕ → ℕ
line_kept regs dev = option_map_or (λ card. card.line) (card_with dev regs.cards) 0

-- those on which the address map does not depend
beside_map : Setup → MapBytes → South → Bytes
beside_map setup regs south reg =
    if reg.dev == 1
    then (if reg.fun == 0 then slice_index south.routes (reg.off - 0x60) else ide_kept setup south reg.off)
    else (if reg.off == 0x3C then line_kept regs reg.dev else reset_byte setup reg)

kept_byte : Setup → MapBytes → South → Bytes
kept_byte setup regs south = overlaid regs (beside_map setup regs south)

-- ---- the 82371SB

four : (routes : List ℕ) → length routes ≡ 4 →
    routes ≡ slice_index routes 0 ∷ slice_index routes 1 ∷ slice_index routes 2 ∷ slice_index routes 3 ∷ []
four (a ∷ b ∷ c ∷ d ∷ []) long = refl
four _ long = absurd (omega (arith, long))

-- the function of the IDE controller resets to the same bytes on each board
south_stands : (setup : Setup) (regs : MapBytes) (south : South) → length south.routes ≡ 4 →
    IsSouthOf (kept_byte setup regs south) south
unfolding kept_byte overlaid beside_map ide_kept reset_byte
south_stands setup regs south long = record {
  routes = four south.routes long;
  ide = grind (arith, nat_tests);
}

-- ---- a card

module _ (setup : Setup) (regs : MapBytes) (south : South) where
  card_is : (card : CardBytes) → IsCard card.card → card_with card.card.dev regs.cards ≡ Some card →
      setup.cards ≡ cards_of regs.cards → HoldsDoublewords card → HasNoRom card →
      IsCardOf setup (kept_byte setup regs south) card
  unfolding kept_byte beside_map line_kept
  card_is card fit at same doublewords no_rom =
      let stands = other_stands regs (beside_map setup regs south) card fit at in
      let above = fit.first in
      record {
        decodes = decodes regs (beside_map setup regs south) card fit at setup same doublewords;
        line = stands 0x3C refl refl (and-false (is_some card.card.rom)) ∙ (grind (arith, nat_tests, at));
        no_rom = no_rom;
        fixed = λ off not_kept. grind (arith, nat_tests, stands off);
      }

-- a board of this setup has these registers
pub has_bytes : (setup : Setup) (registers : Registers) → AreRegisters setup.cards registers →
    (bytes : Bytes) × AreKeptOf setup bytes registers.map.regs registers.south
unfolding kept_byte
has_bytes setup registers are =
    let regs = registers.map.regs in
    let south = registers.south in
    let cards = are.map.saved.regs.cards in
    let fitted = are.map.whole.fitted in
    let doublewords : All HoldsDoublewords regs.cards = λ k d within.
    let widths = (cards.each k d within).widths in record { bases = widths.bases.each; rom = widths.rom } in (
      kept_byte setup regs south,
      record {
        map = overlaid_stands setup regs (beside_map setup regs south) cards.same fitted doublewords;
        cards = (
          cards.same,
          λ k d within.
              card_is setup regs south (get_or regs.cards k d) (fitted.each k d within)
              (found regs.cards fitted.rises k d within) cards.same (doublewords k d within)
              (cards.each k d within).no_rom,
        );
        south = south_stands setup regs south are.south.routes;
      },
    )
