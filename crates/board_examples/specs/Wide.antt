-- Worked examples of accesses that are not aligned, or have 8 bytes, and their logs.
use Rattle.std.specs.Prelude.{ℕ, ◌≡◌, List, [], ◌∷◌, codes, true}
use Rattle.board_prelude.specs.{One, Read, Dram, Shadow, Smram, Abort, Two as TwoParts, Three as ThreeParts}
use Rattle.board_prelude.specs.{Four as FourParts, IsLegal, log_text}
use Rattle.board_examples.specs.Words.{Said, from_reset, selects, inputs, outputs, reads, writes, gives, goes_to, host}
use Rattle.board_examples.specs.Words.{denied_by_host, wide_access, reads_wide, writes_wide, part, denied_part}
use Rattle.board_examples.specs.Words.{gives_parts, goes_in_parts}
use Rattle.board_examples.specs.Basics.{board_of, small_board}
use Rattle.board_examples.specs.Logs.{text_of}

-- the log, of version 2, of an example is this text
abbrev pub IsLoggedWide : List Said → List (List ℕ) → Type 0
IsLoggedWide lines text = log_text 2 (from_reset lines) ≡ text_of text

-- ---- parts

-- a word over the end of DRAM, and accesses that are cut into parts of four, two and one bytes
abbrev pub cut_in_parts : List Said
cut_in_parts =
    writes_wide 2 0x9_FFFF 0xBBAA (goes_in_parts (TwoParts (part (Dram 0)) (denied_part Abort (denied_by_host 0x72))))
    ∷ reads_wide 2 0x9_FFFF (gives_parts 0xFFAA (TwoParts (part (Dram 0)) (denied_part Abort (denied_by_host 0x72))))
    ∷ writes_wide 8 0x1000 0x0807_0605_0403_0201 (goes_in_parts (TwoParts (part (Dram 0)) (part (Dram 0))))
    ∷ reads_wide 8 0x1003
    (gives_parts 0x0000_0008_0706_0504
    (FourParts (part (Dram 0)) (part (Dram 0)) (part (Dram 0)) (part (Dram 0))))
    ∷ reads_wide 4 0x1001 (gives_parts 0x0504_0302 (ThreeParts (part (Dram 0)) (part (Dram 0)) (part (Dram 0))))
    ∷ []

unfoldable pub CutInParts : Type 0
CutInParts = IsLegal small_board (from_reset cut_in_parts)

unfoldable pub CutInPartsLogged : Type 0
CutInPartsLogged = IsLoggedWide cut_in_parts
    (codes "access log 2"
    ∷ codes "1 0.1 w w 0009FFFF BBAA = - dram:0 - abort 00.0.72"
    ∷ codes "2 0.2 r w 0009FFFF = FFAA dram:0 - abort 00.0.72"
    ∷ codes "3 0.3 w q 00001000 0807060504030201 = - dram:0 - dram:0 -"
    ∷ codes "4 0.4 r q 00001003 = 0000000807060504 dram:0 - dram:0 - dram:0 - dram:0 -"
    ∷ codes "5 0.5 r d 00001001 = 05040302 dram:0 - dram:0 - dram:0 -"
    ∷ [])

-- ---- SMRAM

-- SMRAM is locked: in SMM the second byte comes from it, and outside from nobody
abbrev pub over_smram : List Said
over_smram =
    selects 0x8000_0070
    ∷ outputs One 0xCFE 0x58 (goes_to (host 0x72))
    ∷ inputs One 0xCFE (gives 0x1A (host 0x72))
    ∷ wide_access Read true 2 0x9_FFFF 0 (gives_parts 0x0000 (TwoParts (part (Dram 0)) (part Smram)))
    ∷ reads_wide 2 0x9_FFFF (gives_parts 0xFF00 (TwoParts (part (Dram 0)) (denied_part Abort (denied_by_host 0x72))))
    ∷ []

unfoldable pub OverSmram : Type 0
OverSmram = IsLegal small_board (from_reset over_smram)

unfoldable pub OverSmramLogged : Type 0
OverSmramLogged = IsLoggedWide over_smram
    (codes "access log 2"
    ∷ codes "1 0.1 out d 0CF8 80000070 = - confadd -"
    ∷ codes "2 0.2 out b 0CFE 58 = - config:00.0.72 -"
    ∷ codes "3 0.3 in b 0CFE = 1A config:00.0.72 -"
    ∷ codes "4 0.4 r w 0009FFFF smm = 0000 dram:0 - smram -"
    ∷ codes "5 0.5 r w 0009FFFF = FF00 dram:0 - abort 00.0.72"
    ∷ [])

-- ---- the end of the installed memory

-- of 8 MiB below the top 1 MiB is installed: DRAM reads FFh from there on, and loses what is written
abbrev pub past_the_memory : List Said
past_the_memory =
    selects 0x8000_0058
    ∷ outputs One 0xCFD 0x30 (goes_to (host 0x59))
    ∷ writes One 0xF_FFFF 0x66 (goes_to (Shadow 0))
    ∷ reads One 0x10_0000 (gives 0xFF (Dram 0))
    ∷ writes One 0x10_0000 0x55 (goes_to (Dram 0))
    ∷ reads One 0x10_0000 (gives 0xFF (Dram 0))
    ∷ reads One 0xF_FFFF (gives 0x66 (Shadow 0))
    ∷ writes_wide 8 0xF_FFFC 0x8877_6655_4433_2211 (goes_in_parts (TwoParts (part (Shadow 0)) (part (Dram 0))))
    ∷ reads_wide 8 0xF_FFFC (gives_parts 0xFFFF_FFFF_4433_2211 (TwoParts (part (Shadow 0)) (part (Dram 0))))
    ∷ reads One 0x7F_FFFF (gives 0xFF (Dram 0))
    ∷ []

unfoldable pub PastTheMemory : Type 0
PastTheMemory = IsLegal (board_of 1 []) (from_reset past_the_memory)
