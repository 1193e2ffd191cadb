-- Stories of whole boards: the BIOS ranges, the borders of the holes and of the rows, SMRAM with every bit set,
-- reset control, and the ports of a card.
use Rattle.std.specs.Prelude.{ℕ, ◌/◌, List, [], ◌∷◌, map, true, false, None, Some}
use Rattle.board_prelude.specs.{range_with_len, One, System, Keyboard, Dram, Smram, Rom, Card, Device, NoRegister}
use Rattle.board_prelude.specs.{FittedCard, MemoryBase, IoBase, Setup, IsLegal}
use Rattle.board_base.specs.declared.access.Width.TheVariants.{Two, Four}
use Rattle.board_base.specs.declared.target.Dev.TheVariants.{Confadd as AddressPort, Reset, Clock}
use Rattle.board_examples.specs.Words.{Said, from_reset, selects, inputs, outputs, reads, fetches, writes, reads_in_smm}
use Rattle.board_examples.specs.Words.{fetches_in_smm, writes_in_smm, gives, goes_to, floats, lost, host, register}
use Rattle.board_examples.specs.Words.{denied_by, denied_by_host, puts, gets}
use Rattle.board_examples.specs.Basics.{board_of, small_board, vga_card}

-- ---- the BIOS ranges

-- a ROM of 256 KiB, each byte of which is the number of its KiB
unfoldable pub large_rom : List ℕ
large_rom = map (λ off. off / 0x400) (range_with_len 0 0x4_0000)

abbrev pub large_rom_board : Setup
large_rom_board = record small_board { rom = large_rom }

-- XBCS bit 7 selects the extended range alone
abbrev pub extended_bios : List Said
extended_bios =
    selects 0x8000_084C
    ∷ outputs One 0xCFE 0x83 (goes_to (register 1 0 0x4E))
    ∷ reads One 0xFFF7_FFFF (floats 0xFF NoRegister)
    ∷ reads One 0xFFFE_0000 (floats 0xFF (denied_by 1 0 0x4E))
    ∷ reads One 0xFFFE_FFFF (floats 0xFF (denied_by 1 0 0x4E))
    ∷ reads One 0xE_0000 (floats 0xFF (denied_by_host 0x5E))
    ∷ reads One 0xFFF8_0000 (gives 0x00 (Rom 0x0))
    ∷ reads One 0xFFFD_FFFF (gives 0x7F (Rom 0x1_FFFF))
    ∷ reads One 0xFFFF_0000 (gives 0xC0 (Rom 0x3_0000))
    ∷ []

unfoldable pub ExtendedBios : Type 0
ExtendedBios = IsLegal large_rom_board (from_reset extended_bios)

-- XBCS bit 6 selects the two lower ranges alone
abbrev pub lower_bios : List Said
lower_bios =
    selects 0x8000_084C
    ∷ outputs One 0xCFE 0x43 (goes_to (register 1 0 0x4E))
    ∷ reads One 0xFFF8_0000 (floats 0xFF (denied_by 1 0 0x4E))
    ∷ reads One 0xFFFD_FFFF (floats 0xFF (denied_by 1 0 0x4E))
    ∷ reads One 0xD_FFFF (floats 0xFF (denied_by_host 0x5D))
    ∷ reads One 0xFFFE_0000 (gives 0x80 (Rom 0x2_0000))
    ∷ reads One 0xE_0000 (gives 0x80 (Rom 0x2_0000))
    ∷ reads One 0xE_FFFF (gives 0xBF (Rom 0x2_FFFF))
    ∷ reads One 0xF_FFFF (gives 0xFF (Rom 0x3_FFFF))
    ∷ []

unfoldable pub LowerBios : Type 0
LowerBios = IsLegal large_rom_board (from_reset lower_bios)

-- ---- holes and rows of DRAM

-- the two holes, each with its first and its last address, and DRAM beside them
abbrev pub hole_borders : List Said
hole_borders =
    selects 0x8000_0064
    ∷ outputs Four 0xCFC 0x0303_0303 (goes_to (host 0x64))
    ∷ selects 0x8000_0068
    ∷ outputs One 0xCFC 0x80 (goes_to (host 0x68))
    ∷ reads One 0x8_0000 (gives 0x00 (Dram 0))
    ∷ reads One 0xEF_FFFF (gives 0x00 (Dram 4))
    ∷ reads One 0xF0_0000 (floats 0xFF (denied_by_host 0x68))
    ∷ reads One 0xFF_FFFF (floats 0xFF (denied_by_host 0x68))
    ∷ reads One 0x100_0000 (gives 0x00 (Dram 4))
    ∷ outputs One 0xCFC 0x40 (goes_to (host 0x68))
    ∷ reads One 0x7_FFFF (gives 0x00 (Dram 0))
    ∷ reads One 0x8_0000 (floats 0xFF (denied_by_host 0x68))
    ∷ reads One 0x9_FFFF (floats 0xFF (denied_by_host 0x68))
    ∷ reads One 0xA_0000 (floats 0xFF (denied_by_host 0x72))
    ∷ reads One 0xF0_0000 (gives 0x00 (Dram 4))
    ∷ []

unfoldable pub HoleBorders : Type 0
HoleBorders = IsLegal (board_of 24 []) (from_reset hole_borders)

-- the row of an address is the least whose boundary lies above it, and the last boundary is the top
abbrev pub row_borders : List Said
row_borders =
    selects 0x8000_0060
    ∷ outputs Four 0xCFC 0x0200_0100 (goes_to (host 0x60))
    ∷ selects 0x8000_0064
    ∷ outputs Four 0xCFC 0x0305_0000 (goes_to (host 0x64))
    ∷ reads One 0x0 (gives 0x00 (Dram 1))
    ∷ reads One 0x7F_FFFF (gives 0x00 (Dram 1))
    ∷ reads One 0x80_0000 (gives 0x00 (Dram 3))
    ∷ reads One 0xFF_FFFF (gives 0x00 (Dram 3))
    ∷ reads One 0x100_0000 (gives 0x00 (Dram 6))
    ∷ reads One 0x17F_FFFF (gives 0x00 (Dram 6))
    ∷ reads One 0x180_0000 (floats 0xFF (denied_by_host 0x67))
    ∷ reads One 0x7F7F_FFFF (floats 0xFF (denied_by_host 0x67))
    ∷ reads One 0x7F80_0000 (floats 0xFF NoRegister)
    ∷ []

unfoldable pub RowBorders : Type 0
RowBorders = IsLegal (board_of 24 []) (from_reset row_borders)

-- ---- SMRAM open and closed at once

-- with SMRAME, DCLS and DOPEN every fetch reaches SMRAM, in SMM or not, and all data goes to the VGA card
abbrev pub open_and_closed : List Said
open_and_closed =
    selects 0x8000_1004
    ∷ outputs One 0xCFC 0x02 (goes_to (register 2 0 0x04))
    ∷ selects 0x8000_0070
    ∷ outputs One 0xCFE 0x48 (goes_to (host 0x72))
    ∷ writes One 0xA_0010 0x77 (goes_to Smram)
    ∷ outputs One 0xCFE 0xE8 (goes_to (host 0x72))
    ∷ inputs One 0xCFE (gives 0x6A (host 0x72))
    ∷ fetches One 0xA_0010 (gives 0x77 Smram)
    ∷ fetches_in_smm One 0xA_0010 (gives 0x77 Smram)
    ∷ reads One 0xA_0010 (gives 0x00 (Card 2 7 0x10))
    ∷ writes_in_smm One 0xA_0010 0x33 (goes_to (Card 2 7 0x10))
    ∷ reads_in_smm One 0xA_0010 (gives 0x33 (Card 2 7 0x10))
    ∷ fetches One 0xB_FFFF (gives 0x00 Smram)
    ∷ reads One 0xB_FFFF (gives 0x00 (Card 2 7 0x1_FFFF))
    ∷ reads One 0xC_0000 (floats 0xFF (denied_by_host 0x5A))
    ∷ outputs One 0xCFE 0x08 (goes_to (host 0x72))
    ∷ reads One 0xA_0010 (gives 0x33 (Card 2 7 0x10))
    ∷ reads_in_smm One 0xA_0010 (gives 0x77 Smram)
    ∷ []

unfoldable pub OpenAndClosed : Type 0
OpenAndClosed = IsLegal (board_of 8 (vga_card ∷ [])) (from_reset open_and_closed)

-- ---- reset control

-- 06 resets hard wherever bit 2 is 0, as it is after a hard reset; after 04 it is 1, and 06 resets nothing
abbrev pub reset_control_written : List Said
reset_control_written =
    puts Reset 0xCF9 0x02
    ∷ gets Reset 0xCF9 0x02
    ∷ selects 0x8000_0058
    ∷ puts Reset 0xCF9 0x06
    ∷ gets Reset 0xCF9 0x00
    ∷ inputs Four 0xCF8 (gives 0x0000_0000 (Device AddressPort))
    ∷ selects 0x8000_0058
    ∷ puts Reset 0xCF9 0x06
    ∷ inputs Four 0xCF8 (gives 0x0000_0000 (Device AddressPort))
    ∷ puts Reset 0xCF9 0x00
    ∷ selects 0x8000_0058
    ∷ puts Reset 0xCF9 0xFC
    ∷ gets Reset 0xCF9 0x04
    ∷ puts Reset 0xCF9 0x06
    ∷ gets Reset 0xCF9 0x06
    ∷ inputs Four 0xCF8 (gives 0x8000_0058 (Device AddressPort))
    ∷ puts Reset 0xCF9 0x00
    ∷ puts Reset 0xCF9 0x06
    ∷ inputs Four 0xCF8 (gives 0x0000_0000 (Device AddressPort))
    ∷ []

unfoldable pub ResetControlWritten : Type 0
ResetControlWritten = IsLegal small_board (from_reset reset_control_written)

-- the configuration address moves as a doubleword alone
abbrev pub address_in_words : List Said
address_in_words =
    selects 0x8000_0058
    ∷ outputs Two 0xCF8 0x1234 (lost NoRegister)
    ∷ inputs Two 0xCF8 (floats 0xFFFF NoRegister)
    ∷ outputs One 0xCF8 0x55 (lost NoRegister)
    ∷ inputs Four 0xCF8 (gives 0x8000_0058 (Device AddressPort))
    ∷ inputs Four 0xCF8 (gives 0x8000_0058 (Device AddressPort))
    ∷ []

unfoldable pub AddressInWords : Type 0
AddressInWords = IsLegal small_board (from_reset address_in_words)

-- ---- the ports of a card

abbrev pub port_card : FittedCard
port_card = record { dev = 3; vga = false; bases = IoBase 4 ∷ []; rom = None }

abbrev pub port_card_board : Setup
port_card_board = board_of 8 (port_card ∷ [])

-- 16 ports: shut until bit 0 of the command is set, which bit 1 does not do
abbrev pub card_ports : List Said
card_ports =
    selects 0x8000_1810
    ∷ outputs Four 0xCFC 0x0000_C000 (goes_to (register 3 0 0x10))
    ∷ inputs One 0xC004 (floats 0xFF (denied_by 3 0 0x04))
    ∷ selects 0x8000_1804
    ∷ outputs One 0xCFC 0x02 (goes_to (register 3 0 0x04))
    ∷ inputs One 0xC004 (floats 0xFF (denied_by 3 0 0x04))
    ∷ outputs One 0xCFC 0x01 (goes_to (register 3 0 0x04))
    ∷ outputs Two 0xC004 0xBEEF (goes_to (Card 3 0 0x4))
    ∷ inputs One 0xC005 (gives 0xBE (Card 3 0 0x5))
    ∷ inputs Four 0xC004 (gives 0x0000_BEEF (Card 3 0 0x4))
    ∷ inputs One 0xC00F (gives 0x00 (Card 3 0 0xF))
    ∷ inputs One 0xC010 (floats 0xFF NoRegister)
    ∷ inputs One 0xBFFF (floats 0xFF NoRegister)
    ∷ puts Reset 0xCF9 0x06
    ∷ inputs One 0xC004 (floats 0xFF NoRegister)
    ∷ selects 0x8000_1810
    ∷ inputs Four 0xCFC (gives 0x0000_0001 (register 3 0 0x10))
    ∷ outputs Four 0xCFC 0x0000_D000 (goes_to (register 3 0 0x10))
    ∷ selects 0x8000_1804
    ∷ outputs One 0xCFC 0x01 (goes_to (register 3 0 0x04))
    ∷ inputs Two 0xD004 (gives 0xBEEF (Card 3 0 0x4))
    ∷ []

unfoldable pub CardPorts : Type 0
CardPorts = IsLegal port_card_board (from_reset card_ports)

-- where XBCS does not select the keyboard controller or the clock, a card answers at their ports, or nobody
abbrev pub ports_under_xbcs : List Said
ports_under_xbcs =
    gets Keyboard 0x60 0xFF
    ∷ puts Keyboard 0x64 0xAA
    ∷ gets Clock 0x70 0xFF
    ∷ selects 0x8000_084C
    ∷ outputs One 0xCFE 0x00 (goes_to (register 1 0 0x4E))
    ∷ inputs One 0x60 (floats 0xFF (denied_by 1 0 0x4E))
    ∷ outputs One 0x64 0xAA (lost (denied_by 1 0 0x4E))
    ∷ inputs One 0x71 (floats 0xFF (denied_by 1 0 0x4E))
    ∷ selects 0x8000_1810
    ∷ outputs Four 0xCFC 0x0000_0060 (goes_to (register 3 0 0x10))
    ∷ selects 0x8000_1804
    ∷ outputs One 0xCFC 0x01 (goes_to (register 3 0 0x04))
    ∷ outputs One 0x60 0x5A (goes_to (Card 3 0 0x0))
    ∷ inputs Two 0x60 (gives 0x005A (Card 3 0 0x0))
    ∷ inputs One 0x64 (gives 0x00 (Card 3 0 0x4))
    ∷ gets System 0x61 0x20
    ∷ selects 0x8000_084C
    ∷ outputs One 0xCFE 0x01 (goes_to (register 1 0 0x4E))
    ∷ inputs One 0x60 (gives 0x5A (Card 3 0 0x0))
    ∷ gets Clock 0x70 0xFF
    ∷ outputs One 0xCFE 0x02 (goes_to (register 1 0 0x4E))
    ∷ gets Keyboard 0x60 0xFF
    ∷ inputs One 0x70 (floats 0xFF (denied_by 1 0 0x4E))
    ∷ []

unfoldable pub PortsUnderXbcs : Type 0
PortsUnderXbcs = IsLegal port_card_board (from_reset ports_under_xbcs)

-- ---- who claims an address first

abbrev pub two_bases : FittedCard
two_bases = record { dev = 2; vga = true; bases = MemoryBase 12 ∷ MemoryBase 17 ∷ []; rom = Some 17 }

-- of one card the lower base answers, then the expansion ROM, then the VGA window. A shut card denies where DRAM
-- left a gap
abbrev pub bases_in_order : List Said
bases_in_order =
    selects 0x8000_0064
    ∷ outputs One 0xCFF 0x00 (goes_to (host 0x67))
    ∷ reads One 0xFFF (floats 0xFF (denied_by 2 0 0x04))
    ∷ reads One 0xA_0000 (floats 0xFF (denied_by 2 0 0x04))
    ∷ reads One 0xC_0000 (floats 0xFF (denied_by_host 0x67))
    ∷ selects 0x8000_1004
    ∷ outputs One 0xCFC 0x01 (goes_to (register 2 0 0x04))
    ∷ reads One 0xFFF (floats 0xFF (denied_by 2 0 0x04))
    ∷ outputs One 0xCFC 0x02 (goes_to (register 2 0 0x04))
    ∷ writes One 0xFFF 0x11 (goes_to (Card 2 0 0xFFF))
    ∷ reads One 0x1000 (gives 0x00 (Card 2 1 0x1000))
    ∷ writes One 0xA_0FFF 0x22 (goes_to (Card 2 7 0xFFF))
    ∷ selects 0x8000_1030
    ∷ outputs Four 0xCFC 0x000A_0001 (goes_to (register 2 0 0x30))
    ∷ reads One 0xA_0FFF (gives 0x01 (Card 2 6 0xFFF))
    ∷ selects 0x8000_1014
    ∷ outputs Four 0xCFC 0x000A_0000 (goes_to (register 2 0 0x14))
    ∷ reads One 0xA_0FFF (gives 0x00 (Card 2 1 0xFFF))
    ∷ reads One 0x1000 (floats 0xFF (denied_by_host 0x67))
    ∷ reads One 0xFFF (gives 0x11 (Card 2 0 0xFFF))
    ∷ []

unfoldable pub BasesInOrder : Type 0
BasesInOrder = IsLegal (board_of 8 (two_bases ∷ [])) (from_reset bases_in_order)
