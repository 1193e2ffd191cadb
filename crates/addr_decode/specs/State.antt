-- The state of the registers that the address map depends on as bytes. The cards of the board are not in them.
use Rattle.std.specs.Prelude.{ℕ, ◌≡◌, ◌<◌, ◌^◌, List, [], ◌∷◌, ◌++◌, length, slice_index, All, flat_map, Option, None}
use Rattle.std.specs.Prelude.{Some, ◌-◌, take, drop}
use Rattle.std.specs.Int.{w8, w32, to_le_bytes}
use Rattle.board_spec.specs.Setup.{FittedCard}
use Rattle.byte_fields.specs.Fields.{Reading, gives, ◌>>=◌, within, plain}
use Rattle.pci_bars.specs.Cards.{CardBytes, cards_of}
use Rattle.addr_decode.specs.Singles.{single_count}
use Rattle.addr_decode.specs.declared.regs.MapRegs.{MapRegs}

-- a byte, and a doubleword

abbrev pub any_byte : Reading ℕ
any_byte = within w8 0 255

abbrev pub any_long : Reading ℕ
any_long = within w32 0 0xFFFF_FFFF

-- ---- the base address registers of a card

pub record AreBases (bases : List ℕ) : Type 0 where
  pub count : length bases ≡ 6
  pub each : (k : ℕ) → slice_index bases k < 2 ^ 32

abbrev pub bases_bytes : List ℕ → List ℕ
bases_bytes bases = flat_map (to_le_bytes w32) bases

unfoldable pub bases_fields : Reading (List ℕ)
bases_fields = do
  first ← any_long
  second ← any_long
  third ← any_long
  fourth ← any_long
  fifth ← any_long
  sixth ← any_long
  gives (first ∷ second ∷ third ∷ fourth ∷ fifth ∷ sixth ∷ [])

-- ---- the registers of a card: command, interrupt line, bases, and that of the expansion ROM

-- they are as wide as their types say
pub record IsWideCard (card : CardBytes) : Type 0 where
  pub command : card.command < 2 ^ 8
  pub line : card.line < 2 ^ 8
  pub bases : AreBases card.bases
  pub rom : card.rom < 2 ^ 32

-- and without an expansion ROM its register is 0
pub record IsCardRegs (card : CardBytes) : Type 0 where
  pub widths : IsWideCard card
  pub no_rom : card.card.rom ≡ None → card.rom ≡ 0

-- the most that the register of an expansion ROM holds
abbrev pub most_rom : Option ℕ → ℕ
most_rom None = 0
most_rom (Some bits) = 0xFFFF_FFFF

abbrev pub card_bytes : CardBytes → List ℕ
card_bytes card = card.command ∷ card.line ∷ (bases_bytes card.bases ++ to_le_bytes w32 card.rom)

unfoldable pub card_fields : FittedCard → Reading CardBytes
card_fields card = do
  command ← any_byte
  line ← any_byte
  bases ← bases_fields
  rom ← within w32 0 (most_rom card.rom)
  gives (record { card = card; command = command; line = line; bases = bases; rom = rom })

-- ---- those of all cards

-- of these cards, in their order
pub record AreCardRegs (fitted : List FittedCard) (cards : List CardBytes) : Type 0 where
  pub same : fitted ≡ cards_of cards
  pub each : All IsCardRegs cards

unfoldable pub cards_fields : List FittedCard → Reading (List CardBytes)
cards_fields [] = gives []
cards_fields (card ∷ later) = do
  first ← card_fields card
  others ← cards_fields later
  gives (first ∷ others)

-- ---- the whole: DRB0 to DRB7, the first register of one byte, PAM0 to PAM6, the other registers of one byte, and the
-- cards

pub record AreMapRegs (fitted : List FittedCard) (regs : MapRegs) : Type 0 where
  pub drb : length regs.drb ≡ 8
  pub pam : length regs.pam ≡ 7
  pub singles : length regs.singles ≡ single_count
  pub cards : AreCardRegs fitted regs.cards.items

abbrev pub regs_bytes : MapRegs → List ℕ
regs_bytes regs =
    regs.drb
    ++ (take 1 regs.singles ++ (regs.pam ++ (drop 1 regs.singles ++ flat_map card_bytes regs.cards.items)))

unfoldable pub regs_fields : List FittedCard → Reading MapRegs
regs_fields fitted = do
  drb ← plain 8
  first ← plain 1
  pam ← plain 7
  others ← plain (single_count - 1)
  cards ← cards_fields fitted
  gives (record {
    drb = drb;
    pam = pam;
    singles = first ++ others;
    cards = record { items = cards };
  })
