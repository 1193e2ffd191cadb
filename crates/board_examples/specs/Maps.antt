-- The flat map of a board after reset and how it is written, and maps whose columns differ.
use Rattle.std.specs.Prelude.{ℕ, ◌≡◌, List, [], ◌∷◌, codes, replicate}
use Rattle.board_prelude.specs.{One, Area, Entry, byte_of, MapRange, IsFlatMapOf, map_text}
use Rattle.board_base.specs.declared.target.Area.TheVariants.{Dram as DramArea, Smram as SmramArea, Rom as RomArea}
use Rattle.board_base.specs.declared.target.Area.TheVariants.{Abort as AbortArea}
use Rattle.board_examples.specs.Words.{from_reset, selects, outputs, goes_to, host}
use Rattle.board_examples.specs.Basics.{small_board}
use Rattle.board_examples.specs.Logs.{text_of}

-- a range that has one area for each kind of access
abbrev pub range : ℕ → ℕ → Area → MapRange
range lo hi area = record { lo = lo; hi = hi; areas = replicate 6 area }

abbrev pub map_after_reset : List MapRange
map_after_reset =
    range 0x0000_0000 0x0009_FFFF (DramArea 0)
    ∷ range 0x000A_0000 0x000E_FFFF AbortArea
    ∷ range 0x000F_0000 0x000F_FFFF RomArea
    ∷ range 0x0010_0000 0x007F_FFFF (DramArea 0)
    ∷ range 0x0080_0000 0xFFFE_FFFF AbortArea
    ∷ range 0xFFFF_0000 0xFFFF_FFFF RomArea
    ∷ []

unfoldable pub MapAfterReset : Type 0
MapAfterReset = IsFlatMapOf small_board (byte_of small_board []) map_after_reset

unfoldable pub MapAfterResetWritten : Type 0
MapAfterResetWritten = map_text map_after_reset ≡ text_of
    (codes "00000000 0009FFFF dram:0 dram:0 dram:0 dram:0 dram:0 dram:0"
    ∷ codes "000A0000 000EFFFF abort abort abort abort abort abort"
    ∷ codes "000F0000 000FFFFF rom rom rom rom rom rom"
    ∷ codes "00100000 007FFFFF dram:0 dram:0 dram:0 dram:0 dram:0 dram:0"
    ∷ codes "00800000 FFFEFFFF abort abort abort abort abort abort"
    ∷ codes "FFFF0000 FFFFFFFF rom rom rom rom rom rom"
    ∷ [])

-- ---- SMRAM in the columns of the map

-- the registers after the SMRAM register was written
abbrev pub smram_written : (control : ℕ) → List Entry
smram_written control =
    from_reset (selects 0x8000_0070 ∷ outputs One 0xCFE control (goes_to (host 0x72)) ∷ [])

-- the range where SMRAM can lie: who answers fetches, and reads and writes, outside SMM and in SMM
abbrev pub smram_range : (fetches accesses fetches_in_smm accesses_in_smm : Area) → MapRange
smram_range fetches accesses fetches_in_smm accesses_in_smm = record {
  lo = 0x000A_0000;
  hi = 0x000B_FFFF;
  areas = fetches ∷ accesses ∷ accesses ∷ fetches_in_smm ∷ accesses_in_smm ∷ accesses_in_smm ∷ [];
}

abbrev pub map_round : MapRange → List MapRange
map_round middle =
    range 0x0000_0000 0x0009_FFFF (DramArea 0)
    ∷ middle
    ∷ range 0x000C_0000 0x000E_FFFF AbortArea
    ∷ range 0x000F_0000 0x000F_FFFF RomArea
    ∷ range 0x0010_0000 0x007F_FFFF (DramArea 0)
    ∷ range 0x0080_0000 0xFFFE_FFFF AbortArea
    ∷ range 0xFFFF_0000 0xFFFF_FFFF RomArea
    ∷ []

abbrev pub IsMapAfter : (control : ℕ) → MapRange → Type 0
IsMapAfter control middle = IsFlatMapOf small_board (byte_of small_board (smram_written control)) (map_round middle)

-- SMRAME, DOPEN and DCLS: fetches reach SMRAM, in SMM and not
unfoldable pub MapOpenAndClosed : Type 0
MapOpenAndClosed = IsMapAfter 0x68 (smram_range SmramArea AbortArea SmramArea AbortArea)

-- SMRAME and DCLS: fetches in SMM
unfoldable pub MapClosedToData : Type 0
MapClosedToData = IsMapAfter 0x28 (smram_range AbortArea AbortArea SmramArea AbortArea)

-- SMRAME: all in SMM
unfoldable pub MapOfSmm : Type 0
MapOfSmm = IsMapAfter 0x08 (smram_range AbortArea AbortArea SmramArea SmramArea)
