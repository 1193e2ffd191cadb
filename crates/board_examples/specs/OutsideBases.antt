-- A worked example of a base whose bytes the board does not keep: it decodes as any base in memory, its reads give ones
-- whatever was written, and each reply names card, base and offset.
use Rattle.std.specs.Prelude.{List, [], ◌∷◌, false, None}
use Rattle.board_prelude.specs.{One, Read, Card, NoRegister, Setup, FittedCard, MemoryBase, OutsideBase, IsLegal}
use Rattle.board_base.specs.declared.access.Width.TheVariants.{Two, Four}
use Rattle.board_base.specs.declared.target.Area.TheVariants.{Card as CardArea}
use Rattle.board_examples.specs.Words.{Said, from_reset, selects, inputs, outputs, reads, writes, looks, sees, gives}
use Rattle.board_examples.specs.Words.{goes_to, floats, register, denied_by}
use Rattle.board_examples.specs.Basics.{board_of}

-- a frame buffer of 256 MiB, and 4 KiB of registers
abbrev pub frame_card : FittedCard
frame_card = record { dev = 4; vga = false; bases = OutsideBase 28 ∷ MemoryBase 12 ∷ []; rom = None }

abbrev pub frame_board : Setup
frame_board = board_of 8 (frame_card ∷ [])

abbrev pub outside_base : List Said
outside_base =
    selects 0x8000_2010
    ∷ outputs Four 0xCFC 0xFFFF_FFFF (goes_to (register 4 0 0x10))
    ∷ inputs Four 0xCFC (gives 0xF000_0000 (register 4 0 0x10))
    ∷ outputs Four 0xCFC 0xC000_0000 (goes_to (register 4 0 0x10))
    ∷ selects 0x8000_2014
    ∷ outputs Four 0xCFC 0xB000_0000 (goes_to (register 4 0 0x14))
    ∷ reads One 0xC123_4567 (floats 0xFF (denied_by 4 0 0x04))
    ∷ selects 0x8000_2004
    ∷ outputs One 0xCFC 0x02 (goes_to (register 4 0 0x04))
    ∷ reads Four 0xC123_4564 (gives 0xFFFF_FFFF (Card 4 0 0x0123_4564))
    ∷ writes Two 0xC123_4566 0x55AA (goes_to (Card 4 0 0x0123_4566))
    ∷ reads Four 0xC123_4564 (gives 0xFFFF_FFFF (Card 4 0 0x0123_4564))
    ∷ writes One 0xCFFF_FFFF 0x00 (goes_to (Card 4 0 0x0FFF_FFFF))
    ∷ reads One 0xCFFF_FFFF (gives 0xFF (Card 4 0 0x0FFF_FFFF))
    ∷ reads One 0xD000_0000 (floats 0xFF NoRegister)
    ∷ writes One 0xB000_0FFF 0x55 (goes_to (Card 4 1 0xFFF))
    ∷ reads One 0xB000_0FFF (gives 0x55 (Card 4 1 0xFFF))
    ∷ looks Read 0xC123_4567 (sees 4 0xC000_0000 0xCFFF_FFFF (CardArea 4 0))
    ∷ []

unfoldable pub OutsideBaseRead : Type 0
OutsideBaseRead = IsLegal frame_board (from_reset outside_base)
