-- Worked examples of accesses to ports that reach nobody: by what the configuration address selects, by their width,
-- and by where a card's ports lie.
use Rattle.std.specs.Prelude.{List, [], ◌∷◌, ◌++◌, false, None}
use Rattle.board_prelude.specs.{One, Pic0, Pic1, Pit, System, Elcr, Ata, Card, Device, NoRegister, MemoryBase, IoBase}
use Rattle.board_prelude.specs.{FittedCard, Setup, IsLegal}
use Rattle.board_base.specs.declared.access.Width.TheVariants.{Two, Four}
use Rattle.board_base.specs.declared.target.Dev.TheVariants.{Confadd as AddressPort, Clock}
use Rattle.board_examples.specs.Words.{Said, from_reset, selects, inputs, outputs, gives, goes_to, floats, lost}
use Rattle.board_examples.specs.Words.{register, denied_by, puts, gets}
use Rattle.board_examples.specs.Disk.{disk_board, enabled}
use Rattle.board_examples.specs.Basics.{board_of, small_board}
use Rattle.board_examples.specs.Stories.{port_card_board}

-- the function is bits 10 to 8 of the configuration address, the device bits 15 to 11 and the bus bits 23 to 16: the
-- functions 4 to 7 of a device, a device from 16 on and bus 80h are none of those that there are
abbrev pub nobody_selected : List Said
nobody_selected =
    selects 0x8000_0400
    ∷ inputs Four 0xCFC (floats 0xFFFF_FFFF NoRegister)
    ∷ selects 0x8000_0C4C
    ∷ outputs Four 0xCFC 0xFFFF_FFFF (lost NoRegister)
    ∷ selects 0x8000_0D40
    ∷ outputs Two 0xCFC 0x8000 (lost NoRegister)
    ∷ selects 0x8000_0E00
    ∷ inputs Two 0xCFE (floats 0xFFFF NoRegister)
    ∷ selects 0x8000_0F00
    ∷ inputs One 0xCFD (floats 0xFF NoRegister)
    ∷ selects 0x8000_8000
    ∷ inputs Four 0xCFC (floats 0xFFFF_FFFF NoRegister)
    ∷ selects 0x8000_8800
    ∷ inputs Four 0xCFC (floats 0xFFFF_FFFF NoRegister)
    ∷ selects 0x8080_0000
    ∷ inputs Four 0xCFC (floats 0xFFFF_FFFF NoRegister)
    ∷ selects 0x8000_084C
    ∷ inputs Four 0xCFC (gives 0x0003_0000 (register 1 0 0x4C))
    ∷ selects 0x8000_0940
    ∷ inputs Four 0xCFC (gives 0x0000_0000 (register 1 1 0x40))
    ∷ []

unfoldable pub NobodySelected : Type 0
NobodySelected = IsLegal small_board (from_reset nobody_selected)

-- the clock's index and data, the disk's alternate status and reset control are reached by a byte alone: no word moves
-- the index, and none resets
abbrev pub words_at_byte_ports : List Said
words_at_byte_ports =
    enabled
    ++ puts Clock 0x70 0x0B
    ∷ inputs Two 0x70 (floats 0xFFFF NoRegister)
    ∷ outputs Two 0x70 0x000A (lost NoRegister)
    ∷ inputs Two 0x71 (floats 0xFFFF NoRegister)
    ∷ outputs Two 0x71 0x0055 (lost NoRegister)
    ∷ gets Clock 0x71 0x02
    ∷ gets Ata 0x3F6 0x50
    ∷ inputs Two 0x3F6 (floats 0xFFFF NoRegister)
    ∷ outputs Two 0x3F6 0x0004 (lost NoRegister)
    ∷ gets Ata 0x1F7 0x50
    ∷ outputs Two 0xCF9 0x0006 (lost NoRegister)
    ∷ inputs Two 0xCF9 (floats 0xFFFF NoRegister)
    ∷ inputs Four 0xCF8 (gives 0x8000_0940 (Device AddressPort))
    ∷ []

unfoldable pub WordsAtBytePorts : Type 0
WordsAtBytePorts = IsLegal disk_board (from_reset words_at_byte_ports)

-- a base takes all 32 bits, and above FFFFh it covers no port, whether it is shut or open
abbrev pub base_past_the_ports : List Said
base_past_the_ports =
    selects 0x8000_1810
    ∷ outputs Four 0xCFC 0x0001_0300 (goes_to (register 3 0 0x10))
    ∷ inputs Four 0xCFC (gives 0x0001_0301 (register 3 0 0x10))
    ∷ inputs One 0x300 (floats 0xFF NoRegister)
    ∷ selects 0x8000_1804
    ∷ outputs One 0xCFC 0x01 (goes_to (register 3 0 0x04))
    ∷ inputs One 0x300 (floats 0xFF NoRegister)
    ∷ selects 0x8000_1810
    ∷ outputs Four 0xCFC 0x8000_0300 (goes_to (register 3 0 0x10))
    ∷ inputs One 0x300 (floats 0xFF NoRegister)
    ∷ outputs Four 0xCFC 0x0000_0300 (goes_to (register 3 0 0x10))
    ∷ inputs One 0x305 (gives 0x00 (Card 3 0 0x5))
    ∷ []

unfoldable pub BasePastThePorts : Type 0
BasePastThePorts = IsLegal port_card_board (from_reset base_past_the_ports)

-- the 8259A pair, the 8254, the keyboard controller and edge and level control are reached by a byte alone: a word or a
-- doubleword at their ports begins no sequence, programs no counter and moves no bit
abbrev pub words_at_chips : List Said
words_at_chips =
    outputs Two 0x20 0x0011 (lost NoRegister)
    ∷ outputs Four 0x20 0x0000_0011 (lost NoRegister)
    ∷ inputs Two 0x20 (floats 0xFFFF NoRegister)
    ∷ puts Pic0 0x21 0xA5
    ∷ gets Pic0 0x21 0xA5
    ∷ outputs Two 0xA0 0x0011 (lost NoRegister)
    ∷ inputs Four 0xA0 (floats 0xFFFF_FFFF NoRegister)
    ∷ puts Pic1 0xA1 0x5A
    ∷ gets Pic1 0xA1 0x5A
    ∷ outputs Two 0x60 0x0100 (lost NoRegister)
    ∷ inputs Two 0x60 (floats 0xFFFF NoRegister)
    ∷ inputs Four 0x60 (floats 0xFFFF_FFFF NoRegister)
    ∷ inputs Two 0x64 (floats 0xFFFF NoRegister)
    ∷ inputs Four 0x64 (floats 0xFFFF_FFFF NoRegister)
    ∷ gets System 0x61 0x20
    ∷ outputs Two 0x4D0 0x0E20 (lost NoRegister)
    ∷ inputs Two 0x4D0 (floats 0xFFFF NoRegister)
    ∷ inputs Four 0x4D0 (floats 0xFFFF_FFFF NoRegister)
    ∷ gets Elcr 0x4D0 0x00
    ∷ gets Elcr 0x4D1 0x00
    ∷ outputs Two 0x42 0x1600 (lost NoRegister)
    ∷ outputs Four 0x40 0x1605_0505 (lost NoRegister)
    ∷ outputs Two 0x40 0x0505 (lost NoRegister)
    ∷ inputs Two 0x40 (floats 0xFFFF NoRegister)
    ∷ inputs Two 0x42 (floats 0xFFFF NoRegister)
    ∷ inputs Four 0x40 (floats 0xFFFF_FFFF NoRegister)
    ∷ puts Pit 0x43 0xE2
    ∷ gets Pit 0x40 0xF6
    ∷ []

unfoldable pub WordsAtChips : Type 0
WordsAtChips = IsLegal small_board (from_reset words_at_chips)

-- a card's base that is shut over the ports of the disk, where none is fitted, and over those of the clock. Without a
-- disk no register denies them, and where XBCS does not select the clock it is XBCS; beside them, and of another width,
-- the card's command denies. Open, the base answers at all
abbrev pub shut_over_devices : List Said
shut_over_devices =
    selects 0x8000_1810
    ∷ outputs Four 0xCFC 0x0000_01F0 (goes_to (register 3 0 0x10))
    ∷ inputs Two 0x1F0 (floats 0xFFFF NoRegister)
    ∷ outputs One 0x1F7 0x20 (lost NoRegister)
    ∷ inputs One 0x1F0 (floats 0xFF (denied_by 3 0 0x04))
    ∷ inputs Two 0x1F2 (floats 0xFFFF (denied_by 3 0 0x04))
    ∷ inputs One 0x1F8 (floats 0xFF (denied_by 3 0 0x04))
    ∷ outputs Four 0xCFC 0x0000_0070 (goes_to (register 3 0 0x10))
    ∷ selects 0x8000_084C
    ∷ outputs One 0xCFE 0x00 (goes_to (register 1 0 0x4E))
    ∷ inputs One 0x70 (floats 0xFF (denied_by 1 0 0x4E))
    ∷ outputs One 0x71 0x12 (lost (denied_by 1 0 0x4E))
    ∷ inputs One 0x72 (floats 0xFF (denied_by 3 0 0x04))
    ∷ inputs Two 0x70 (floats 0xFFFF (denied_by 3 0 0x04))
    ∷ selects 0x8000_1804
    ∷ outputs One 0xCFC 0x01 (goes_to (register 3 0 0x04))
    ∷ outputs One 0x71 0x12 (goes_to (Card 3 0 0x1))
    ∷ inputs One 0x71 (gives 0x12 (Card 3 0 0x1))
    ∷ selects 0x8000_1810
    ∷ outputs Four 0xCFC 0x0000_01F0 (goes_to (register 3 0 0x10))
    ∷ inputs Two 0x1F0 (gives 0x1200 (Card 3 0 0x0))
    ∷ []

unfoldable pub ShutOverDevices : Type 0
ShutOverDevices = IsLegal port_card_board (from_reset shut_over_devices)

-- a card whose base 0 is memory and whose bases 1 to 5 are ports of five sizes
abbrev pub numbered_card : FittedCard
numbered_card = record {
  dev = 5;
  vga = false;
  bases = MemoryBase 4 ∷ IoBase 2 ∷ IoBase 3 ∷ IoBase 4 ∷ IoBase 5 ∷ IoBase 8 ∷ [];
  rom = None;
}

abbrev pub numbered_board : Setup
numbered_board = board_of 8 (numbered_card ∷ [])

-- each base answers by its own number, at its own register's ports, from the first to the last
abbrev pub bases_by_number : List Said
bases_by_number =
    selects 0x8000_2814
    ∷ outputs Four 0xCFC 0x0000_1100 (goes_to (register 5 0 0x14))
    ∷ selects 0x8000_2818
    ∷ outputs Four 0xCFC 0x0000_1200 (goes_to (register 5 0 0x18))
    ∷ selects 0x8000_281C
    ∷ outputs Four 0xCFC 0x0000_1300 (goes_to (register 5 0 0x1C))
    ∷ selects 0x8000_2820
    ∷ outputs Four 0xCFC 0x0000_1400 (goes_to (register 5 0 0x20))
    ∷ selects 0x8000_2824
    ∷ outputs Four 0xCFC 0x0000_1500 (goes_to (register 5 0 0x24))
    ∷ selects 0x8000_2804
    ∷ outputs One 0xCFC 0x01 (goes_to (register 5 0 0x04))
    ∷ outputs One 0x1103 0x11 (goes_to (Card 5 1 0x3))
    ∷ outputs One 0x1203 0x22 (goes_to (Card 5 2 0x3))
    ∷ outputs One 0x1303 0x33 (goes_to (Card 5 3 0x3))
    ∷ outputs One 0x1403 0x44 (goes_to (Card 5 4 0x3))
    ∷ outputs One 0x1503 0x55 (goes_to (Card 5 5 0x3))
    ∷ inputs One 0x1103 (gives 0x11 (Card 5 1 0x3))
    ∷ inputs One 0x1104 (floats 0xFF NoRegister)
    ∷ inputs One 0x1203 (gives 0x22 (Card 5 2 0x3))
    ∷ inputs One 0x1208 (floats 0xFF NoRegister)
    ∷ inputs One 0x1303 (gives 0x33 (Card 5 3 0x3))
    ∷ inputs One 0x1310 (floats 0xFF NoRegister)
    ∷ inputs One 0x1403 (gives 0x44 (Card 5 4 0x3))
    ∷ inputs One 0x1420 (floats 0xFF NoRegister)
    ∷ inputs One 0x1503 (gives 0x55 (Card 5 5 0x3))
    ∷ inputs One 0x15FF (gives 0x00 (Card 5 5 0xFF))
    ∷ inputs One 0x1600 (floats 0xFF NoRegister)
    ∷ []

unfoldable pub BasesByNumber : Type 0
BasesByNumber = IsLegal numbered_board (from_reset bases_by_number)
