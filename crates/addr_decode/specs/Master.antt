-- How a bus master sees the memory map: as a processor does where SMRAM answers nobody.
use Rattle.std.specs.Prelude.{ℕ, false, Option}
use Rattle.board_prelude.specs.{Kind, Area, Denial, Setup, xbcs, Bytes, area_under, row_of, is_shadowed, memory_claim}
use Rattle.board_prelude.specs.{denial_in, abort_denial, top_of, memory_shut, rom_unselected, rom_denial, is_in_hole}
use Rattle.board_prelude.specs.{is_bios_selected}

-- the area that an access of a bus master reaches
unfoldable pub master_area : Setup → Bytes → ℕ → Kind → Area
master_area setup bytes addr kind =
    area_under
    (row_of bytes addr)
    false
    (is_shadowed bytes addr kind)
    (is_in_hole bytes addr)
    (is_bios_selected bytes addr)
    (memory_claim setup bytes addr)
    addr

-- and what denies it
unfoldable pub master_denial : Setup → Bytes → ℕ → Kind → Option Denial
master_denial setup bytes addr kind =
    denial_in (master_area setup bytes addr kind) kind
    (abort_denial (top_of bytes) (memory_shut setup bytes addr) (rom_unselected setup bytes addr) addr)
    (rom_denial (bytes xbcs))
