-- Which writes raise the version of the map, and which histories break the lock law.
use Rattle.std.specs.Prelude.{ℕ, ◌≡◌, ◌+◌, ◌*◌, List, [], ◌∷◌, ◌++◌, true, false, None, Some}
use Rattle.board_prelude.specs.{One, Read, Dram, Smram, Confadd, FittedCard, MemoryBase, Setup, version_of, LockLaw}
use Rattle.board_prelude.specs.{Two as TwoParts}
use Rattle.board_base.specs.declared.access.Width.TheVariants.{Two, Four}
use Rattle.board_base.specs.declared.target.Dev.TheVariants.{Reset}
use Rattle.board_base.specs.declared.target.Area.TheVariants.{Smram as SmramArea}
use Rattle.board_examples.specs.Words.{Said, from_reset, selects, inputs, outputs, reads, reads_wide, looks, sees}
use Rattle.board_examples.specs.Words.{gives, goes_to, lost, host, register, puts, part, gives_parts}
use Rattle.board_examples.specs.Basics.{board_of, small_board}

-- ---- map writes

abbrev pub card_with_rom : FittedCard
card_with_rom = record { dev = 2; vga = false; bases = MemoryBase 20 ∷ []; rom = Some 16 }

abbrev pub card_without_rom : FittedCard
card_without_rom = record { dev = 3; vga = true; bases = []; rom = None }

abbrev pub mapped_board : Setup
mapped_board = board_of 8 (card_with_rom ∷ card_without_rom ∷ [])

-- a byte of a function is written. Port 0CFCh plus the low two bits of the offset reaches it
abbrev pub stores : (dev fun off low : ℕ) → List Said
stores dev fun off low =
    selects (0x8000_0000 + dev * 0x800 + fun * 0x100 + off)
    ∷ outputs One (0xCFC + low) 0x00 (goes_to (register dev fun (off + low)))
    ∷ []

-- bytes beside the map bytes, reads, a write where the configuration address is not enabled, and a soft reset
abbrev pub unseen_writes : List Said
unseen_writes =
    stores 0 0 0x58 0
    ++ stores 0 0 0x68 1
    ++ stores 0 0 0x70 1
    ++ stores 0 0 0x70 3
    ++ stores 1 0 0x4C 1
    ++ stores 1 0 0x4C 3
    ++ stores 1 0 0x60 0
    ++ stores 1 1 0x4C 2
    ++ stores 1 1 0x04 0
    ++ stores 2 0 0x00 3
    ++ stores 2 0 0x04 1
    ++ stores 2 0 0x0C 3
    ++ stores 2 0 0x28 0
    ++ stores 2 0 0x2C 3
    ++ stores 2 0 0x34 0
    ++ stores 2 0 0x3C 0
    ++ stores 3 0 0x30 0
    ++ selects 0x8000_084C
    ∷ outputs Two 0xCFC 0x0000 (goes_to (register 1 0 0x4C))
    ∷ inputs One 0xCFE (gives 0x03 (register 1 0 0x4E))
    ∷ selects 0x0000_084C
    ∷ outputs One 0xCFE 0x00 (lost Confadd)
    ∷ puts Reset 0xCF9 0x04
    ∷ []

unfoldable pub UnseenWrites : Type 0
UnseenWrites = version_of mapped_board (from_reset unseen_writes) ≡ 0

-- the first and the last map byte of each run, wider writes that cover one at their end, and a hard reset
abbrev pub seen_writes : List Said
seen_writes =
    stores 0 0 0x58 1
    ++ stores 0 0 0x68 0
    ++ stores 0 0 0x70 2
    ++ stores 1 0 0x4C 2
    ++ stores 2 0 0x04 0
    ++ stores 2 0 0x10 0
    ++ stores 2 0 0x24 3
    ++ stores 2 0 0x30 0
    ++ stores 2 0 0x30 3
    ++ stores 3 0 0x24 3
    ++ selects 0x8000_0058
    ∷ outputs Two 0xCFC 0x0000 (goes_to (host 0x58))
    ∷ selects 0x8000_0070
    ∷ outputs Four 0xCFC 0x0000_0000 (goes_to (host 0x70))
    ∷ puts Reset 0xCF9 0x06
    ∷ []

unfoldable pub SeenWrites : Type 0
SeenWrites = version_of mapped_board (from_reset seen_writes) ≡ 13

-- ---- histories that break the lock law

-- SMRAM is opened and locked
abbrev pub locked : List Said
locked = selects 0x8000_0070 ∷ outputs One 0xCFE 0x58 (goes_to (host 0x72)) ∷ []

abbrev pub IsBroken : List Said → Type 0
IsBroken lines = ¬ LockLaw small_board (from_reset lines)

-- after it an access, a part of a wide access, and a look outside SMM name SMRAM
unfoldable pub AccessBreaksLock : Type 0
AccessBreaksLock = IsBroken (locked ++ reads One 0xA_0000 (gives 0x00 Smram) ∷ [])

unfoldable pub PartBreaksLock : Type 0
PartBreaksLock =
    IsBroken (locked ++ reads_wide 2 0x9_FFFF (gives_parts 0x0000 (TwoParts (part (Dram 0)) (part Smram))) ∷ [])

unfoldable pub LookBreaksLock : Type 0
LookBreaksLock = IsBroken (locked ++ looks Read 0xA_0000 (sees 2 0xA_0000 0xB_FFFF SmramArea) ∷ [])

-- a write of four bytes locks by its third; a write that unlocks nothing, a soft reset, and a write to reset
-- control that resets nothing stand between
unfoldable pub WordBreaksLock : Type 0
WordBreaksLock = IsBroken
    (selects 0x8000_0070
    ∷ outputs Four 0xCFC 0x0010_0000 (goes_to (host 0x70))
    ∷ outputs One 0xCFE 0x00 (goes_to (host 0x72))
    ∷ puts Reset 0xCF9 0x04
    ∷ puts Reset 0xCF9 0x06
    ∷ reads One 0xA_0000 (gives 0x00 Smram)
    ∷ [])
