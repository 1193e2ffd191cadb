-- Worked examples of expansion ROMs: who answers, and who denies.
use Rattle.std.specs.Prelude.{List, [], ◌∷◌, codes, false, Some}
use Rattle.board_prelude.specs.{One, Read, Card, NoRegister, Setup, FittedCard, IsLegal}
use Rattle.board_base.specs.declared.access.Width.TheVariants.{Four}
use Rattle.board_base.specs.declared.target.Area.TheVariants.{Card as CardArea, Abort as AbortArea}
use Rattle.board_examples.specs.Words.{Said, from_reset, selects, inputs, outputs, reads, writes, looks, sees, gives}
use Rattle.board_examples.specs.Words.{goes_to, floats, lost, register, denied_by}
use Rattle.board_examples.specs.Basics.{board_of, memory_card}
use Rattle.board_examples.specs.Wide.{IsLoggedWide}

-- ---- an expansion ROM

abbrev pub rom_card : FittedCard
rom_card = record { dev = 2; vga = false; bases = []; rom = Some 16 }

abbrev pub rom_card_board : Setup
rom_card_board = board_of 8 (rom_card ∷ [])

-- the ROM's register, its two enables, and who denies it without them
abbrev pub expansion_rom : List Said
expansion_rom =
    selects 0x8000_1030
    ∷ outputs Four 0xCFC 0xFFFF_FFFF (goes_to (register 2 0 0x30))
    ∷ inputs Four 0xCFC (gives 0xFFFF_0001 (register 2 0 0x30))
    ∷ outputs Four 0xCFC 0xD000_0000 (goes_to (register 2 0 0x30))
    ∷ reads One 0xD000_0004 (floats 0xFF NoRegister)
    ∷ outputs Four 0xCFC 0xD000_0001 (goes_to (register 2 0 0x30))
    ∷ reads One 0xD000_0004 (floats 0xFF (denied_by 2 0 0x04))
    ∷ selects 0x8000_1004
    ∷ outputs One 0xCFC 0x02 (goes_to (register 2 0 0x04))
    ∷ reads One 0xD000_0004 (gives 0x06 (Card 2 6 0x4))
    ∷ writes One 0xD000_0004 0x55 (goes_to (Card 2 6 0x4))
    ∷ looks Read 0xD000_0004 (sees 4 0xD000_0000 0xD000_FFFF (CardArea 2 6))
    ∷ selects 0x8000_1030
    ∷ outputs One 0xCFC 0x00 (goes_to (register 2 0 0x30))
    ∷ reads One 0xD000_0004 (floats 0xFF (denied_by 2 0 0x30))
    ∷ looks Read 0xD000_0004 (sees 5 0x80_0000 0xFFFE_FFFF AbortArea)
    ∷ []

unfoldable pub ExpansionRom : Type 0
ExpansionRom = IsLegal rom_card_board (from_reset expansion_rom)

unfoldable pub ExpansionRomLogged : Type 0
ExpansionRomLogged = IsLoggedWide expansion_rom
    (codes "access log 2"
    ∷ codes "1 0.1 out d 0CF8 80001030 = - confadd -"
    ∷ codes "2 0.2 out d 0CFC FFFFFFFF = - config:02.0.30 -"
    ∷ codes "3 0.3 in d 0CFC = FFFF0001 config:02.0.30 -"
    ∷ codes "4 0.4 out d 0CFC D0000000 = - config:02.0.30 -"
    ∷ codes "5 0.5 r b D0000004 = FF abort none"
    ∷ codes "6 0.6 out d 0CFC D0000001 = - config:02.0.30 -"
    ∷ codes "7 0.7 r b D0000004 = FF abort 02.0.04"
    ∷ codes "8 0.8 out d 0CF8 80001004 = - confadd -"
    ∷ codes "9 0.9 out b 0CFC 02 = - config:02.0.04 -"
    ∷ codes "10 0.10 r b D0000004 = 06 card:2.6:00000004 -"
    ∷ codes "11 0.11 w b D0000004 55 = - card:2.6:00000004 -"
    ∷ codes "12 0.12 look r D0000004 = 4 D0000000 D000FFFF card:2.6"
    ∷ codes "13 0.13 out d 0CF8 80001030 = - confadd -"
    ∷ codes "14 0.14 out b 0CFC 00 = - config:02.0.30 -"
    ∷ codes "15 0.15 r b D0000004 = FF abort 02.0.30"
    ∷ codes "16 0.16 look r D0000004 = 5 00800000 FFFEFFFF abort"
    ∷ [])

-- ---- who denies first

abbrev pub shut_board : Setup
shut_board = board_of 8 (rom_card ∷ memory_card 3 16 ∷ [])

-- a shut card denies before an enabled one whose ROM is not selected
abbrev pub shut_before_unselected : List Said
shut_before_unselected =
    selects 0x8000_1030
    ∷ outputs Four 0xCFC 0xD000_0000 (goes_to (register 2 0 0x30))
    ∷ selects 0x8000_1004
    ∷ outputs One 0xCFC 0x02 (goes_to (register 2 0 0x04))
    ∷ selects 0x8000_1810
    ∷ outputs Four 0xCFC 0xD000_0000 (goes_to (register 3 0 0x10))
    ∷ reads One 0xD000_0004 (floats 0xFF (denied_by 3 0 0x04))
    ∷ outputs Four 0xCFC 0xE000_0000 (goes_to (register 3 0 0x10))
    ∷ writes One 0xD000_0004 0x55 (lost (denied_by 2 0 0x30))
    ∷ []

unfoldable pub ShutBeforeUnselected : Type 0
ShutBeforeUnselected = IsLegal shut_board (from_reset shut_before_unselected)
