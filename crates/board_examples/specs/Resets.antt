-- Every writable register of each function is read before it is written, and so its value after a reset is seen.
use Rattle.std.specs.Prelude.{ℕ, ◌+◌, ◌*◌, List, [], ◌∷◌, ◌++◌}
use Rattle.board_base.specs.declared.access.Width.TheVariants.{Four}
use Rattle.board_spec.specs.Legal.{IsLegal}
use Rattle.board_examples.specs.Words.{Said, from_reset, selects, inputs, gives, register}
use Rattle.board_examples.specs.Masks.{full_board}

-- the doubleword of a function at an offset reads this
abbrev pub reads_as : (dev fun off : ℕ) → ℕ → List Said
reads_as dev fun off value =
    selects (0x8000_0000 + dev * 0x800 + fun * 0x100 + off)
    ∷ inputs Four 0xCFC (gives value (register dev fun off))
    ∷ []

-- PAM0 to PAM6, DRB0 to DRB7, FDHC and SMRAM; XBCS and PIRQRCA to PIRQRCD; the IDE command and IDETIM
abbrev pub bridges_after_reset : List Said
bridges_after_reset =
    reads_as 0 0 0x58 0x0000_0000
    ++ reads_as 0 0 0x5C 0x0000_0000
    ++ reads_as 0 0 0x60 0x0101_0101
    ++ reads_as 0 0 0x64 0x0101_0101
    ++ reads_as 0 0 0x68 0x0000_0000
    ++ reads_as 0 0 0x70 0x0002_0000
    ++ reads_as 1 0 0x4C 0x0003_0000
    ++ reads_as 1 0 0x60 0x8080_8080
    ++ reads_as 1 1 0x04 0x0280_0000
    ++ reads_as 1 1 0x40 0x0000_0000

unfoldable pub BridgesAfterReset : Type 0
BridgesAfterReset = IsLegal full_board (from_reset bridges_after_reset)

-- of the plain card the command, a memory base, two I/O bases, the expansion ROM and the interrupt line; of the VGA
-- card, which has neither bases nor a ROM, the rest
abbrev pub cards_after_reset : List Said
cards_after_reset =
    reads_as 5 0 0x04 0x0280_0000
    ++ reads_as 5 0 0x10 0x0000_0000
    ++ reads_as 5 0 0x14 0x0000_0001
    ++ reads_as 5 0 0x18 0x0000_0001
    ++ reads_as 5 0 0x30 0x0000_0000
    ++ reads_as 5 0 0x3C 0x0000_0100
    ++ reads_as 6 0 0x04 0x0280_0000
    ++ reads_as 6 0 0x3C 0x0000_0100

unfoldable pub CardsAfterReset : Type 0
CardsAfterReset = IsLegal full_board (from_reset cards_after_reset)
