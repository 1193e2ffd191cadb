-- Worked examples: what is asked of a board from reset on, line by line, and what it replies. Each is a
-- legal history of its board, computed from the definitions alone.
use Rattle.std.specs.Prelude.{ℕ, ◌%◌, List, [], ◌∷◌, map, true, false, None}
use Rattle.board_prelude.specs.{range_with_len, One, Read, Dram, Shadow, Smram, Rom, Card, Device, Confadd, NoRegister}
use Rattle.board_prelude.specs.{FittedCard, MemoryBase, Setup, IsLegal}
use Rattle.board_base.specs.declared.access.Width.TheVariants.{Two, Four}
use Rattle.board_base.specs.declared.target.Area.TheVariants.{Card as CardArea, Abort as AbortArea}
use Rattle.board_base.specs.declared.target.Dev.TheVariants.{Confadd as AddressPort, Reset}
use Rattle.board_examples.specs.Words.{Said, from_reset, selects, inputs, outputs, reads, fetches, writes, looks, sees}
use Rattle.board_examples.specs.Words.{reads_in_smm, fetches_in_smm, writes_in_smm, gives, goes_to, floats, lost}
use Rattle.board_examples.specs.Words.{lost_in, host, register, denied_by, denied_by_host}

-- ---- the boards

-- a ROM of 64 KiB, each byte of which is the low byte of its offset
unfoldable pub counting_rom : List ℕ
counting_rom = map (λ off. off % 0x100) (range_with_len 0 0x1_0000)

-- a board with this many MiB and these cards
abbrev pub board_of : ℕ → List FittedCard → Setup
board_of mib cards = record { mib = mib; cards = cards; rom = counting_rom; disk = None }

abbrev pub small_board : Setup
small_board = board_of 8 []

abbrev pub vga_card : FittedCard
vga_card = record { dev = 2; vga = true; bases = []; rom = None }

-- a card with one memory base of 2 ^ bits bytes
abbrev pub memory_card : ℕ → ℕ → FittedCard
memory_card dev bits = record { dev = dev; vga = false; bases = MemoryBase bits ∷ []; rom = None }

-- ---- shadow windows

-- the ROM is copied into the DRAM under it: first writes go to DRAM, then reads come from it
abbrev pub shadowing_the_bios : List Said
shadowing_the_bios =
    selects 0x8000_0058
    ∷ outputs One 0xCFD 0x20 (goes_to (host 0x59))
    ∷ reads Two 0xF_0000 (gives 0x0100 (Rom 0))
    ∷ writes Two 0xF_0000 0x5AA5 (goes_to (Shadow 0))
    ∷ outputs One 0xCFD 0x10 (goes_to (host 0x59))
    ∷ reads Two 0xF_0000 (gives 0x5AA5 (Shadow 0))
    ∷ writes Two 0xF_0000 0x0000 (lost_in (Rom 0) (denied_by 1 0 0x4E))
    ∷ reads Two 0xF_0000 (gives 0x5AA5 (Shadow 0))
    ∷ inputs One 0xCFD (gives 0x10 (host 0x59))
    ∷ []

unfoldable pub ShadowingTheBios : Type 0
ShadowingTheBios = IsLegal small_board (from_reset shadowing_the_bios)

-- PAM2's high nibble opens one window of 16 KiB, and that for writes alone
abbrev pub one_window_for_writes : List Said
one_window_for_writes =
    selects 0x8000_0058
    ∷ outputs One 0xCFF 0x20 (goes_to (host 0x5B))
    ∷ writes One 0xC_BFFF 0x01 (lost (denied_by_host 0x5B))
    ∷ writes One 0xC_C000 0x02 (goes_to (Shadow 0))
    ∷ reads One 0xC_C000 (floats 0xFF (denied_by_host 0x5B))
    ∷ writes One 0xC_FFFF 0x03 (goes_to (Shadow 0))
    ∷ writes One 0xD_0000 0x04 (lost (denied_by_host 0x5C))
    ∷ []

unfoldable pub OneWindowForWrites : Type 0
OneWindowForWrites = IsLegal small_board (from_reset one_window_for_writes)

-- ---- who answers after reset, and who denies the rest

abbrev pub memory_after_reset : List Said
memory_after_reset =
    reads One 0x9_FFFF (gives 0x00 (Dram 0))
    ∷ reads One 0xA_0000 (floats 0xFF (denied_by_host 0x72))
    ∷ reads One 0xB_FFFF (floats 0xFF (denied_by_host 0x72))
    ∷ reads One 0xC_0000 (floats 0xFF (denied_by_host 0x5A))
    ∷ writes One 0x80_0000 0x01 (lost (denied_by_host 0x67))
    ∷ reads Four 0xE000_0000 (floats 0xFFFF_FFFF NoRegister)
    ∷ reads One 0xFFFE_0000 (floats 0xFF (denied_by 1 0 0x4E))
    ∷ []

unfoldable pub MemoryAfterReset : Type 0
MemoryAfterReset = IsLegal small_board (from_reset memory_after_reset)

-- the configuration address and what it selects: nobody where it is not enabled, or names no device
abbrev pub configuration_ports : List Said
configuration_ports =
    inputs One 0xCF8 (floats 0xFF NoRegister)
    ∷ inputs One 0xCFC (floats 0xFF Confadd)
    ∷ selects 0x8000_0000
    ∷ inputs Two 0xCFE (gives 0x1237 (host 0x02))
    ∷ inputs Four 0xCFC (gives 0x1237_8086 (host 0x00))
    ∷ selects 0x8000_F800
    ∷ inputs Four 0xCFC (floats 0xFFFF_FFFF NoRegister)
    ∷ selects 0xFFFF_FFFF
    ∷ inputs Four 0xCF8 (gives 0x80FF_FFFC (Device AddressPort))
    ∷ []

unfoldable pub ConfigurationPorts : Type 0
ConfigurationPorts = IsLegal small_board (from_reset configuration_ports)

-- ---- SMRAM

-- SMRAM is filled in SMM, closed and locked. Nothing but a hard reset opens it again, and its bytes stay
abbrev pub smram_locked_until_reset : List Said
smram_locked_until_reset =
    selects 0x8000_0070
    ∷ outputs One 0xCFE 0x58 (goes_to (host 0x72))
    ∷ inputs One 0xCFE (gives 0x1A (host 0x72))
    ∷ writes_in_smm One 0xA_0000 0x77 (goes_to Smram)
    ∷ reads One 0xA_0000 (floats 0xFF (denied_by_host 0x72))
    ∷ outputs One 0xCFE 0x42 (goes_to (host 0x72))
    ∷ inputs One 0xCFE (gives 0x12 (host 0x72))
    ∷ reads_in_smm One 0xA_0000 (floats 0xFF (denied_by_host 0x72))
    ∷ outputs One 0xCFE 0x00 (goes_to (host 0x72))
    ∷ inputs One 0xCFE (gives 0x12 (host 0x72))
    ∷ outputs One 0xCF9 0x06 (goes_to (Device Reset))
    ∷ inputs One 0xCFE (floats 0xFF Confadd)
    ∷ selects 0x8000_0070
    ∷ inputs One 0xCFE (gives 0x02 (host 0x72))
    ∷ outputs One 0xCFE 0x48 (goes_to (host 0x72))
    ∷ reads One 0xA_0000 (gives 0x77 Smram)
    ∷ []

unfoldable pub SmramLockedUntilReset : Type 0
SmramLockedUntilReset = IsLegal small_board (from_reset smram_locked_until_reset)

-- with SMRAM closed to data, data in SMM goes to the VGA window and code comes from SMRAM
abbrev pub vga_beside_smram : List Said
vga_beside_smram =
    selects 0x8000_1004
    ∷ outputs One 0xCFC 0x02 (goes_to (register 2 0 0x04))
    ∷ selects 0x8000_0070
    ∷ outputs One 0xCFE 0x28 (goes_to (host 0x72))
    ∷ writes_in_smm One 0xA_0010 0x33 (goes_to (Card 2 7 0x10))
    ∷ fetches_in_smm One 0xA_0010 (gives 0x00 Smram)
    ∷ reads_in_smm One 0xA_0010 (gives 0x33 (Card 2 7 0x10))
    ∷ fetches One 0xA_0010 (gives 0x33 (Card 2 7 0x10))
    ∷ []

unfoldable pub VgaBesideSmram : Type 0
VgaBesideSmram = IsLegal (board_of 8 (vga_card ∷ [])) (from_reset vga_beside_smram)

-- with no row of DRAM there is neither SMRAM nor a shadow window, but the ROM stays
abbrev pub no_row_of_dram : List Said
no_row_of_dram =
    selects 0x8000_0058
    ∷ outputs One 0xCFD 0x30 (goes_to (host 0x59))
    ∷ selects 0x8000_0070
    ∷ outputs One 0xCFE 0x48 (goes_to (host 0x72))
    ∷ selects 0x8000_0064
    ∷ outputs One 0xCFF 0x00 (goes_to (host 0x67))
    ∷ reads One 0x0 (floats 0xFF (denied_by_host 0x67))
    ∷ reads One 0xA_0000 (floats 0xFF (denied_by_host 0x67))
    ∷ reads One 0xF_0001 (gives 0x01 (Rom 1))
    ∷ []

unfoldable pub NoRowOfDram : Type 0
NoRowOfDram = IsLegal small_board (from_reset no_row_of_dram)

-- ---- holes and cards

-- a card in the hole at 15 MiB answers there, and DRAM where the card was moved
abbrev pub card_in_the_hole : List Said
card_in_the_hole =
    selects 0x8000_0060
    ∷ outputs Four 0xCFC 0x0202_0202 (goes_to (host 0x60))
    ∷ selects 0x8000_0064
    ∷ outputs Four 0xCFC 0x0202_0202 (goes_to (host 0x64))
    ∷ selects 0x8000_1010
    ∷ outputs Four 0xCFC 0x00F0_0000 (goes_to (register 2 0 0x10))
    ∷ selects 0x8000_1004
    ∷ outputs One 0xCFC 0x02 (goes_to (register 2 0 0x04))
    ∷ selects 0x8000_0068
    ∷ outputs One 0xCFC 0x80 (goes_to (host 0x68))
    ∷ writes One 0xF0_0004 0x55 (goes_to (Card 2 0 0x4))
    ∷ selects 0x8000_1010
    ∷ outputs Four 0xCFC 0x00E0_0000 (goes_to (register 2 0 0x10))
    ∷ reads One 0xE0_0004 (gives 0x00 (Dram 0))
    ∷ reads One 0xF0_0004 (floats 0xFF (denied_by_host 0x68))
    ∷ []

unfoldable pub CardInTheHole : Type 0
CardInTheHole = IsLegal (board_of 16 (memory_card 2 20 ∷ [])) (from_reset card_in_the_hole)

-- the hole at 512 KiB, and none where both bits of FDHC are set
abbrev pub hole_at_512_kib : List Said
hole_at_512_kib =
    selects 0x8000_0068
    ∷ outputs One 0xCFC 0x40 (goes_to (host 0x68))
    ∷ reads One 0x7_FFFF (gives 0x00 (Dram 0))
    ∷ reads One 0x8_0000 (floats 0xFF (denied_by_host 0x68))
    ∷ outputs One 0xCFC 0xC0 (goes_to (host 0x68))
    ∷ reads One 0x8_0000 (gives 0x00 (Dram 0))
    ∷ inputs One 0xCFC (gives 0xC0 (host 0x68))
    ∷ []

unfoldable pub HoleAt512Kib : Type 0
HoleAt512Kib = IsLegal small_board (from_reset hole_at_512_kib)

-- two cards claim one address: the shut one denies it, an enabled one answers, of two the lower device
abbrev pub two_cards_at_one_address : List Said
two_cards_at_one_address =
    selects 0x8000_1010
    ∷ outputs Four 0xCFC 0xC000_0000 (goes_to (register 2 0 0x10))
    ∷ selects 0x8000_1810
    ∷ outputs Four 0xCFC 0xC000_0000 (goes_to (register 3 0 0x10))
    ∷ reads One 0xC000_0000 (floats 0xFF (denied_by 2 0 0x04))
    ∷ selects 0x8000_1804
    ∷ outputs One 0xCFC 0x02 (goes_to (register 3 0 0x04))
    ∷ writes One 0xC000_0000 0x11 (goes_to (Card 3 0 0x0))
    ∷ selects 0x8000_1004
    ∷ outputs One 0xCFC 0x02 (goes_to (register 2 0 0x04))
    ∷ reads One 0xC000_0000 (gives 0x00 (Card 2 0 0x0))
    ∷ looks Read 0xC000_0000 (sees 4 0xC000_0000 0xC000_0FFF (CardArea 2 0))
    ∷ []

abbrev pub two_cards : Setup
two_cards = board_of 8 (memory_card 2 12 ∷ memory_card 3 12 ∷ [])

unfoldable pub TwoCardsAtOneAddress : Type 0
TwoCardsAtOneAddress = IsLegal two_cards (from_reset two_cards_at_one_address)

-- ---- XBCS and reset control

-- XBCS selects more of the ROM, whose chip cannot be written. A soft reset leaves XBCS as it is
abbrev pub xbcs_over_a_soft_reset : List Said
xbcs_over_a_soft_reset =
    selects 0x8000_084C
    ∷ outputs One 0xCFE 0x47 (goes_to (register 1 0 0x4E))
    ∷ writes One 0xF_0000 0x01 (lost_in (Rom 0) NoRegister)
    ∷ reads One 0xE_0005 (gives 0x05 (Rom 5))
    ∷ outputs One 0xCF9 0x04 (goes_to (Device Reset))
    ∷ inputs One 0xCFE (gives 0x47 (register 1 0 0x4E))
    ∷ inputs One 0xCF9 (gives 0x04 (Device Reset))
    ∷ []

unfoldable pub XbcsOverASoftReset : Type 0
XbcsOverASoftReset = IsLegal small_board (from_reset xbcs_over_a_soft_reset)

-- the ROM answers reads and fetches, and no write
abbrev pub rom_after_reset : List Said
rom_after_reset =
    writes One 0xF_0012 0xAA (lost_in (Rom 0x12) (denied_by 1 0 0x4E))
    ∷ reads One 0xF_0012 (gives 0x12 (Rom 0x12))
    ∷ fetches Four 0xF_0010 (gives 0x1312_1110 (Rom 0x10))
    ∷ []

unfoldable pub RomAfterReset : Type 0
RomAfterReset = IsLegal small_board (from_reset rom_after_reset)

-- ---- looks at the map

-- a card is moved to the end of the address space. What it left is a gap, and the ROM stands before it
abbrev pub card_moved_under_the_rom : List Said
card_moved_under_the_rom =
    selects 0x8000_1010
    ∷ outputs Four 0xCFC 0xE000_0000 (goes_to (register 2 0 0x10))
    ∷ selects 0x8000_1004
    ∷ outputs One 0xCFC 0x02 (goes_to (register 2 0 0x04))
    ∷ looks Read 0xE000_0000 (sees 2 0xE000_0000 0xE00F_FFFF (CardArea 2 0))
    ∷ selects 0x8000_1010
    ∷ outputs Four 0xCFC 0xFFFF_FFFF (goes_to (register 2 0 0x10))
    ∷ inputs Four 0xCFC (gives 0xFFF0_0000 (register 2 0 0x10))
    ∷ looks Read 0xE000_0000 (sees 3 0x80_0000 0xFFEF_FFFF AbortArea)
    ∷ looks Read 0xFFFE_0000 (sees 3 0xFFF0_0000 0xFFFE_FFFF (CardArea 2 0))
    ∷ []

abbrev pub moved_card : Setup
moved_card = board_of 8 (memory_card 2 20 ∷ [])

unfoldable pub CardMovedUnderTheRom : Type 0
CardMovedUnderTheRom = IsLegal moved_card (from_reset card_moved_under_the_rom)
