-- Ranges of memory addresses, the first and the last of each, by the names of the datasheets.
use Rattle.std.specs.Prelude.{ℕ, Bool}
use Rattle.board_spec.specs.Bits.{is_within}

abbrev pub lies_in : ℕ × ℕ → ℕ → Bool
lies_in range addr = is_within range.0 range.1 addr

-- where SMRAM can lie, and the window of a VGA card (82441FX, PC compatibility range)
abbrev pub smram_range : ℕ × ℕ
smram_range = (0xA_0000, 0xB_FFFF)

-- the shadow windows of PAM: the ISA expansion area with the extended BIOS, and the system BIOS (82441FX, PAM)
abbrev pub expansion_range : ℕ × ℕ
expansion_range = (0xC_0000, 0xE_FFFF)

abbrev pub system_bios : ℕ × ℕ
system_bios = (0xF_0000, 0xF_FFFF)

abbrev pub shadow_range : ℕ × ℕ
shadow_range = (expansion_range.0, system_bios.1)

-- what lies between DOS memory and extended memory, where DRAM answers by SMRAM and PAM alone (82441FX, System Address
-- Map)
abbrev pub upper_memory : ℕ × ℕ
upper_memory = (smram_range.0, shadow_range.1)

-- the fixed holes of FDHC (82441FX)
abbrev pub hole_at_512_kib : ℕ × ℕ
hole_at_512_kib = (0x8_0000, 0x9_FFFF)

abbrev pub hole_at_15_mib : ℕ × ℕ
hole_at_15_mib = (0xF0_0000, 0xFF_FFFF)

-- the BIOS ROM under 4 GiB, and the ranges that XBCS adds below it (82371SB)
abbrev pub high_bios : ℕ × ℕ
high_bios = (0xFFFF_0000, 0xFFFF_FFFF)

abbrev pub lower_bios : ℕ × ℕ
lower_bios = (0xE_0000, 0xE_FFFF)

abbrev pub lower_high_bios : ℕ × ℕ
lower_high_bios = (0xFFFE_0000, 0xFFFE_FFFF)

abbrev pub extended_bios : ℕ × ℕ
extended_bios = (0xFFF8_0000, 0xFFFD_FFFF)

-- all that XBCS can take from the ROM at the top of the address space
abbrev pub selectable_bios : ℕ × ℕ
selectable_bios = (extended_bios.0, lower_high_bios.1)

-- the largest top that the boundary registers can set, 255 times 8 MiB (82441FX, DRB)
abbrev pub largest_top : ℕ
largest_top = 0x7F80_0000

-- how many bytes a boundary register counts (82441FX, DRB)
abbrev pub boundary_unit : ℕ
boundary_unit = 0x80_0000
