-- Every register of each function is written with ones and read back, and so its writable bits are seen; then
-- those that begin with ones are written with zeros.
use Rattle.std.specs.Prelude.{ℕ, ◌+◌, ◌*◌, List, [], ◌∷◌, ◌++◌, true, false, None, Some}
use Rattle.board_prelude.specs.{One, Confadd, NoRegister, FittedCard, MemoryBase, IoBase, Setup, IsLegal}
use Rattle.board_base.specs.declared.access.Width.TheVariants.{Two, Four}
use Rattle.board_examples.specs.Words.{Said, from_reset, selects, inputs, outputs, gives, goes_to, floats, lost}
use Rattle.board_examples.specs.Words.{register}
use Rattle.board_examples.specs.Basics.{board_of, small_board}

-- the doubleword of a function at an offset is written, and reads this afterwards
abbrev pub written_with : ℕ → (dev fun off : ℕ) → ℕ → List Said
written_with value dev fun off after =
    selects (0x8000_0000 + dev * 0x800 + fun * 0x100 + off)
    ∷ outputs Four 0xCFC value (goes_to (register dev fun off))
    ∷ inputs Four 0xCFC (gives after (register dev fun off))
    ∷ []

abbrev pub ones : (dev fun off : ℕ) → ℕ → List Said
ones dev fun off after = written_with 0xFFFF_FFFF dev fun off after

abbrev pub zeros : (dev fun off : ℕ) → ℕ → List Said
zeros dev fun off after = written_with 0x0000_0000 dev fun off after

-- ---- the host bridge

abbrev pub host_written : List Said
host_written =
    ones 0 0 0x00 0x1237_8086
    ++ ones 0 0 0x04 0x0280_0006
    ++ ones 0 0 0x08 0x0600_0000
    ++ ones 0 0 0x0C 0x0000_0000
    ++ ones 0 0 0x54 0x0000_0000
    ++ ones 0 0 0x58 0x3333_3000
    ++ ones 0 0 0x5C 0x3333_3333
    ++ zeros 0 0 0x60 0x0000_0000
    ++ ones 0 0 0x60 0xFFFF_FFFF
    ++ ones 0 0 0x64 0xFFFF_FFFF
    ++ ones 0 0 0x68 0x0000_00C0
    ++ ones 0 0 0x70 0x003A_0000
    ++ zeros 0 0 0x70 0x0012_0000
    ++ ones 0 0 0x74 0x0000_0000

unfoldable pub HostWritten : Type 0
HostWritten = IsLegal small_board (from_reset host_written)

-- ---- the ISA bridge and the IDE function

abbrev pub isa_written : List Said
isa_written =
    ones 1 0 0x00 0x7000_8086
    ++ ones 1 0 0x04 0x0280_0007
    ++ ones 1 0 0x08 0x0601_0000
    ++ ones 1 0 0x0C 0x0080_0000
    ++ ones 1 0 0x4C 0x00C7_0000
    ++ zeros 1 0 0x4C 0x0000_0000
    ++ ones 1 0 0x60 0x8F8F_8F8F
    ++ zeros 1 0 0x60 0x0000_0000
    ++ ones 1 0 0x64 0x0000_0000

unfoldable pub IsaWritten : Type 0
IsaWritten = IsLegal small_board (from_reset isa_written)

abbrev pub ide_written : List Said
ide_written =
    ones 1 1 0x00 0x7010_8086
    ++ ones 1 1 0x04 0x0280_0005
    ++ ones 1 1 0x08 0x0101_8000
    ++ ones 1 1 0x0C 0x0000_0000
    ++ ones 1 1 0x3C 0x0000_0000
    ++ ones 1 1 0x40 0x0000_FFFF
    ++ ones 1 1 0x44 0x0000_0000
    ++ zeros 1 1 0x04 0x0280_0000

unfoldable pub IdeWritten : Type 0
IdeWritten = IsLegal small_board (from_reset ide_written)

-- ---- cards

-- a plain card with a memory base, two I/O bases and an expansion ROM, and a VGA card without any
abbrev pub full_card : FittedCard
full_card = record { dev = 5; vga = false; bases = MemoryBase 16 ∷ IoBase 4 ∷ IoBase 2 ∷ []; rom = Some 12 }

abbrev pub bare_vga : FittedCard
bare_vga = record { dev = 6; vga = true; bases = []; rom = None }

abbrev pub full_board : Setup
full_board = board_of 8 (full_card ∷ bare_vga ∷ [])

abbrev pub card_written : List Said
card_written =
    ones 5 0 0x00 0x0105_A55A
    ++ ones 5 0 0x04 0x0280_0007
    ++ ones 5 0 0x08 0xFF00_0000
    ++ ones 5 0 0x0C 0x0000_0000
    ++ ones 5 0 0x10 0xFFFF_0000
    ++ ones 5 0 0x14 0xFFFF_FFF1
    ++ zeros 5 0 0x14 0x0000_0001
    ++ ones 5 0 0x18 0xFFFF_FFFD
    ++ ones 5 0 0x1C 0x0000_0000
    ++ ones 5 0 0x2C 0x0000_0000
    ++ ones 5 0 0x30 0xFFFF_F001
    ++ ones 5 0 0x3C 0x0000_01FF

unfoldable pub CardWritten : Type 0
CardWritten = IsLegal full_board (from_reset card_written)

abbrev pub vga_written : List Said
vga_written =
    ones 6 0 0x00 0x0106_A55A
    ++ ones 6 0 0x08 0x0300_0000
    ++ ones 6 0 0x10 0x0000_0000
    ++ ones 6 0 0x24 0x0000_0000
    ++ ones 6 0 0x30 0x0000_0000

unfoldable pub VgaWritten : Type 0
VgaWritten = IsLegal full_board (from_reset vga_written)

-- ---- how bytes move

-- a word and a byte go to their own offsets; other functions, other devices and other buses are not there
abbrev pub functions_told_apart : List Said
functions_told_apart =
    selects 0x8000_005C
    ∷ outputs Two 0xCFE 0x1030 (goes_to (register 0 0 0x5E))
    ∷ outputs One 0xCFD 0x02 (goes_to (register 0 0 0x5D))
    ∷ inputs Four 0xCFC (gives 0x1030_0200 (register 0 0 0x5C))
    ∷ inputs Two 0xCFC (gives 0x0200 (register 0 0 0x5C))
    ∷ selects 0x8000_0058
    ∷ inputs Four 0xCFC (gives 0x0000_0000 (register 0 0 0x58))
    ∷ selects 0x8000_015C
    ∷ inputs Four 0xCFC (floats 0xFFFF_FFFF NoRegister)
    ∷ selects 0x8000_0A00
    ∷ outputs Four 0xCFC 0x0000_0000 (lost NoRegister)
    ∷ selects 0x8000_2900
    ∷ inputs One 0xCFF (floats 0xFF NoRegister)
    ∷ selects 0x8000_2000
    ∷ inputs Two 0xCFE (floats 0xFFFF NoRegister)
    ∷ selects 0x8001_0000
    ∷ inputs Four 0xCFC (floats 0xFFFF_FFFF NoRegister)
    ∷ selects 0x0000_005C
    ∷ outputs One 0xCFC 0x33 (lost Confadd)
    ∷ selects 0x8000_005C
    ∷ inputs One 0xCFC (gives 0x00 (register 0 0 0x5C))
    ∷ []

unfoldable pub FunctionsToldApart : Type 0
FunctionsToldApart = IsLegal full_board (from_reset functions_told_apart)
