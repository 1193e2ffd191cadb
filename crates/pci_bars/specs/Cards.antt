-- The registers of a card, and what it means that they are those of a board's configuration space.
use Rattle.std.specs.Prelude.{◌≡◌, ℕ, ◌+◌, ◌<◌, ◌==◌, Bool, false, ◌&&◌, ◌||◌, List, map, All, slice_index, Option}
use Rattle.std.specs.Prelude.{Some, None, is_some, [], ◌∷◌, ◌++◌, if◌then◌else◌}
use Rattle.board_base.specs.declared.access.Width.TheVariants.{Four}
use Rattle.board_prelude.specs.{Reg, FittedCard, Setup, IsCard, Rises, card_at, byte, is_within, wide, card_register}
use Rattle.board_prelude.specs.{card_command, base_register, expansion_rom, interrupt_line, One, Store, reset_byte}
use Rattle.board_prelude.specs.{changed_byte, reg_after, Bytes}

-- a card, its command register, its interrupt line, its six base address registers, and the register of its
-- expansion ROM
pub record CardBytes : Type 0 where
  pub card : FittedCard
  pub command : ℕ
  pub line : ℕ
  pub bases : List ℕ
  pub rom : ℕ

-- four registers from one on hold a doubleword, as a number and byte by byte
pub record HoldsLong (bytes : Bytes) (first : Reg) (value : ℕ) : Type 0 where
  pub number : wide (λ off. bytes (record first { off = off })) first.off Four ≡ value
  pub each : (j : ℕ) → j < 4 → bytes (reg_after first j) ≡ byte value j

-- the register of an expansion ROM. Of a card without one the address map depends on none
abbrev pub HoldsRom : Bytes → (dev rom : ℕ) → Option ℕ → Type 0
HoldsRom bytes dev rom None = Unit {0}
HoldsRom bytes dev rom (Some bits) = HoldsLong bytes (expansion_rom dev) rom

-- these are the registers of a card of the setup on which the address map depends: the command, the six bases
-- and the expansion ROM's
pub record DecodesAs (setup : Setup) (bytes : Bytes) (card : CardBytes) : Type 0 where
  pub fitted : card_at setup card.card.dev ≡ Some card.card
  pub command : bytes (card_command card.card.dev) ≡ card.command
  pub bases : (k : ℕ) → k < 6 → HoldsLong bytes (base_register card.card.dev k) (slice_index card.bases k)
  pub rom : HoldsRom bytes card.card.dev card.rom card.card.rom

-- the offsets at which a card keeps what is written: command, bases, expansion ROM and interrupt line
abbrev pub is_kept_offset : FittedCard → ℕ → Bool
is_kept_offset card off =
    off == (card_command card.dev).off
    || is_within (base_register card.dev 0).off ((base_register card.dev 5).off + 3) off
    || is_some card.rom && is_within (expansion_rom card.dev).off ((expansion_rom card.dev).off + 3) off
    || off == (interrupt_line card.dev).off

-- these are all the registers of a card of the setup. Those that it does not keep stand as after a reset, and that of
-- an expansion ROM which it does not have is 0
pub record IsCardOf (setup : Setup) (bytes : Bytes) (card : CardBytes) : Type 0 where
  pub decodes : DecodesAs setup bytes card
  pub line : bytes (interrupt_line card.card.dev) ≡ card.line
  pub no_rom : card.card.rom ≡ None → card.rom ≡ 0
  pub fixed : (off : ℕ) → is_kept_offset card.card off ≡ false →
      bytes (card_register card.card.dev off) ≡ reset_byte setup (card_register card.card.dev off)

-- the registers after a byte is stored at an offset of a card
abbrev pub stored : Setup → Bytes → (dev off written : ℕ) → Bytes
stored setup bytes dev off written =
    λ reg. changed_byte setup (Store (card_register dev off) One written) reg (bytes reg)

-- a card before and after a byte is written at an offset: where the registers of a board were those of the card, they
-- are so with that byte stored
abbrev pub IsWritten : (old new : CardBytes) → (off written : ℕ) → Type 0
IsWritten old new off written =
    (setup : Setup) (bytes : Bytes) → IsCardOf setup bytes old →
    IsCardOf setup (stored setup bytes old.card.dev off written) new

-- the same of the registers on which the address map depends
abbrev pub IsDecodedWritten : (old new : CardBytes) → (off written : ℕ) → Type 0
IsDecodedWritten old new off written =
    (setup : Setup) (bytes : Bytes) → DecodesAs setup bytes old →
    DecodesAs setup (stored setup bytes old.card.dev off written) new

abbrev pub cards_of : List CardBytes → List FittedCard
cards_of cards = map (λ card. card.card) cards

-- the cards of the setup, in their order
abbrev pub AreDecoded : Setup → Bytes → List CardBytes → Type 0
AreDecoded setup bytes cards = (setup.cards ≡ cards_of cards) × All (DecodesAs setup bytes) cards

abbrev pub AreCardsOf : Setup → Bytes → List CardBytes → Type 0
AreCardsOf setup bytes cards = (setup.cards ≡ cards_of cards) × All (IsCardOf setup bytes) cards

-- each can be fitted to a board
abbrev pub AreCards : List CardBytes → Type 0
AreCards cards = All (λ card. IsCard card.card) cards

-- cards as a board can be fitted with: each is one, and their devices rise
pub record AreFitted (cards : List CardBytes) : Type 0 where
  pub each : AreCards cards
  pub rises : Rises (cards_of cards)

-- a card as a reset leaves it, in each setup that has it
abbrev pub IsReset : CardBytes → Type 0
IsReset card = (setup : Setup) → card_at setup card.card.dev ≡ Some card.card → IsCardOf setup (reset_byte setup) card

abbrev pub AreReset : List CardBytes → Type 0
AreReset cards = All IsReset cards

-- one card more, as a reset leaves it. Those that were there stay as they are
pub record IsCardAdded (old new : List CardBytes) (spec : FittedCard) : Type 0 where
  pub regs : CardBytes
  pub added : new ≡ old ++ regs ∷ []
  pub card : regs.card ≡ spec
  pub reset : IsReset regs

-- the first sixteen registers
abbrev pub header_of : CardBytes → List ℕ
header_of card =
    0x5A ∷ 0xA5 ∷ card.card.dev ∷ 0x01
    ∷ card.command ∷ 0x00 ∷ 0x80 ∷ 0x02
    ∷ 0x00 ∷ 0x00 ∷ 0x00 ∷ (if card.card.vga then 0x03 else 0xFF)
    ∷ 0x00 ∷ 0x00 ∷ 0x00 ∷ 0x00
    ∷ []
