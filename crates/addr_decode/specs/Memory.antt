-- The memory map as the code asks it: DRAM in its three forms first, and then the ROM and the cards.
use Rattle.std.specs.Prelude.{ℕ, ◌==◌, nat_lt, Bool, true, false, not, if◌then◌else◌, Option, Some, None, option_map}
use Rattle.std.specs.Prelude.{unwrap_or}
use Rattle.board_prelude.specs.{Area, Denial, Register, NoRegister, Setup, lies_in, selectable_bios, expansion_range}
use Rattle.board_prelude.specs.{largest_top, Bytes, Window, line_where, is_smram_range, is_shadow_range, card_area}
use Rattle.board_prelude.specs.{memory_claim, pam_register, drb, smram, xbcs, card_command, expansion_rom}
use Rattle.board_prelude.specs.{is_bios_selected, is_in_hole, row_of, upper_memory}
use Rattle.board_base.specs.declared.target.Area.TheVariants.{Dram, Shadow, Smram, Rom, Card, Abort}
use Rattle.addr_decode.specs.Singles.{hole_denial}

-- where an access below the top of DRAM reaches it, over what the registers say of the address
abbrev pub row_area : (row : ℕ) → (opened shadowed hole : Bool) → ℕ → Option Area
row_area row opened shadowed hole addr =
    if is_smram_range addr then line_where opened Smram else
    if is_shadow_range addr then line_where shadowed (Shadow row) else line_where (not hole) (Dram row)

abbrev pub dram_area : (row : Option ℕ) → (opened shadowed hole : Bool) → ℕ → Option Area
dram_area None opened shadowed hole addr = None
dram_area (Some row) opened shadowed hole addr = row_area row opened shadowed hole addr

-- the row of ordinary DRAM at an address: outside upper memory and the hole
abbrev pub plain_row : Bytes → ℕ → Option ℕ
plain_row bytes addr =
    if lies_in upper_memory addr then None else if is_in_hole bytes addr then None else row_of bytes addr

-- what answers where DRAM does not
abbrev pub above_dram : (dram : Option Area) → (rom : Bool) → (claim : Option Window) → Area
above_dram (Some area) rom claim = area
above_dram None true claim = Rom
above_dram None false claim = unwrap_or (option_map card_area claim) Abort

-- at an address of a board
abbrev pub beside_dram : Setup → Bytes → ℕ → Area
beside_dram setup bytes addr = above_dram None (is_bios_selected bytes addr) (memory_claim setup bytes addr)

-- the area that a claim gives
abbrev pub area_by : Option (ℕ × ℕ) → Area
area_by (Some claim) = Card claim.0 claim.1
area_by None = Abort

-- the register of the board that keeps an address from everybody, by the top of DRAM, if one does
unfoldable pub board_denial : (top : ℕ) → ℕ → Option Denial
board_denial top addr =
    if lies_in selectable_bios addr then Some (Register xbcs) else
    if top == 0 then None else
    if is_smram_range addr then Some (Register smram) else
    if lies_in expansion_range addr then Some (Register (pam_register addr)) else
    line_where (nat_lt addr top) hole_denial

-- what denies where no card does either
abbrev pub row_denial : ℕ → Denial
row_denial addr = if nat_lt addr largest_top then Register (drb 7) else NoRegister

-- what denies where no register of the board does, by the device that is shut and the one whose ROM is not selected
abbrev pub card_denial : (shut unselected : Option ℕ) → ℕ → Denial
card_denial (Some dev) unselected addr = Register (card_command dev)
card_denial None (Some dev) addr = Register (expansion_rom dev)
card_denial None None addr = row_denial addr
