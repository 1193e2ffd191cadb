-- The opened map stands for the registers after the map writes of the history.
use Rattle.std.proofs.Common.{◌≡◌, ℕ, ◌+◌, true, ◌||◌, List, Option, Some, None, refl, sym, arith, ◌==◌, is_some, ◌<◌}
use Rattle.board_prelude.proofs.{nat_tests, Entry, is_within, Setup, card_at, Bytes, SameMapBytes, has_rom}
use Rattle.board_prelude.proofs.{map_writes_of, registers_after, card_register, expansion_rom, byte_of}
use Rattle.board_prelude.proofs.{map_writes_decide}
use Rattle.pci_bars.specs.Cards.{CardBytes, DecodesAs, HoldsRom}
use Rattle.pci_bars.proofs.CardLemmas.{holds-same}
use Rattle.addr_decode.specs.MapRegs.{MapBytes, StandsFor}
use Rattle.addr_decode.proofs.NameLemmas.{block_is_byte, single_is_byte, card_is_byte, rom_is_byte}

module _ (setup : Setup) (bytes other : Bytes) (same : SameMapBytes setup bytes other) where
  card_same : (dev off : ℕ) → is_some (card_at setup dev) ≡ true → (off == 0x04 || is_within 0x10 0x27 off) ≡ true →
      bytes (card_register dev off) ≡ other (card_register dev off)
  card_same dev off fitted is = same (card_register dev off) (card_is_byte setup dev off fitted is)

  rom_moves : (dev value : ℕ) (size : Option ℕ) → (is_some size ≡ true → has_rom (card_at setup dev) ≡ true) →
      HoldsRom bytes dev value size → HoldsRom other dev value size
  rom_moves dev value None has holds = tt
  rom_moves dev value (Some bits) has holds =
      holds-same bytes other (expansion_rom dev) value
      (λ j below. sym (same (card_register dev (0x30 + j))
      (rom_is_byte setup dev (0x30 + j) (has refl) (grind (arith, nat_tests))))) holds

  decodes_moves : (card : CardBytes) → DecodesAs setup bytes card → DecodesAs setup other card
  decodes_moves card is = grind (arith, nat_tests, holds-same, card_same, rom_moves)

  stands_moves : (regs : MapBytes) → StandsFor setup bytes regs → StandsFor setup other regs
  stands_moves regs stands =
      let rows = λ (row : ℕ) (below : row < 8). stands.rows row in let moved = same in
      grind (arith, stands, rows, block_is_byte setup, single_is_byte setup, decodes_moves)

pub stands_after : (setup : Setup) (history : List Entry) (regs : MapBytes) →
    StandsFor setup (byte_of setup history) regs →
    StandsFor setup (registers_after setup (map_writes_of setup history)) regs
stands_after setup history regs =
    stands_moves setup (byte_of setup history) (registers_after setup (map_writes_of setup history))
    (map_writes_decide setup history) regs
