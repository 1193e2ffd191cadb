-- Where a memory access lands, and which register denied it: over the register bytes alone.
use Rattle.std.specs.Prelude.{ℕ, ◌+◌, ◌-◌, ◌*◌, ◌/◌, ◌%◌, ◌^◌, ◌==◌, Bool, true, false, not, ◌&&◌, ◌||◌, nat_lt, nat_le}
use Rattle.std.specs.Prelude.{if◌then◌else◌, List, [], ◌∷◌, ◌++◌, Option, Some, None, is_some, unwrap_or, option_map}
use Rattle.std.specs.Prelude.{find, flat_map}
use Rattle.std.specs.List.{enumerate_from}
use Rattle.board_base.specs.declared.access.Kind.{Kind}
use Rattle.board_base.specs.declared.access.Kind.TheVariants.{Fetch, Read, Write}
use Rattle.board_base.specs.declared.target.Reg.{Reg}
use Rattle.board_base.specs.declared.target.Area.{Area}
use Rattle.board_base.specs.declared.target.Denial.{Denial}
use Rattle.board_base.specs.declared.target.Denial.TheVariants.{Register, NoRegister}
use Rattle.board_base.specs.declared.access.Width.TheVariants.{Four}
use Rattle.board_base.specs.declared.target.Area.TheVariants.{Dram, Shadow, Smram, Rom, Card, Abort}
use Rattle.board_spec.specs.Setup.{Base, MemoryBase, IoBase, OutsideBase, FittedCard, Setup, rom_base, vga_base}
use Rattle.board_spec.specs.Setup.{vga_bits}
use Rattle.board_spec.specs.Bits.{is_bit, wide}
use Rattle.board_spec.specs.RegisterNames.{bridge, pam, drb, fdhc, smram, xbcs, card_register, card_command}
use Rattle.board_spec.specs.RegisterNames.{base_register, expansion_rom}
use Rattle.board_spec.specs.Ranges.{lies_in, smram_range, expansion_range, system_bios, shadow_range, upper_memory}
use Rattle.board_spec.specs.Ranges.{hole_at_512_kib, hole_at_15_mib, high_bios, lower_bios, lower_high_bios}
use Rattle.board_spec.specs.Ranges.{extended_bios, selectable_bios, largest_top, boundary_unit}

-- what the registers hold
abbrev pub Bytes : Type 0
Bytes = Reg → ℕ

-- the first line of a table that holds
abbrev pub first_of : {X : Type 0} → List (Option X) → X → X
first_of [] otherwise = otherwise
first_of (None ∷ later) otherwise = first_of later otherwise
first_of (Some answer ∷ later) otherwise = answer

-- a line of a table: an answer and where it holds
abbrev pub line_where : {X : Type 0} → Bool → X → Option X
line_where true answer = Some answer
line_where false answer = None

-- ---- DRAM rows and the fixed hole (82441FX, DRB and FDHC)

-- the address at which a row of DRAM ends: its boundary register counts 8 MiB (82441FX, DRB)
abbrev pub boundary : Bytes → ℕ → ℕ
boundary bytes row = bytes (drb row) * boundary_unit

-- the top of DRAM is the last boundary (82441FX, DRB7)
abbrev pub top_of : Bytes → ℕ
top_of bytes = boundary bytes 7

-- the row of an address below the top: the least whose boundary lies above the address (82441FX, DRB)
unfoldable pub row_of : Bytes → ℕ → Option ℕ
row_of bytes addr =
    if nat_lt addr (top_of bytes)
    then find (λ row. nat_lt addr (boundary bytes row)) (0 ∷ 1 ∷ 2 ∷ 3 ∷ 4 ∷ 5 ∷ 6 ∷ 7 ∷ [])
    else None

-- the hole, first and last address, by bits 7 and 6 of FDHC (82441FX, FDHC, Hole Enable)
abbrev pub hole_of : ℕ → Option (ℕ × ℕ)
hole_of control =
    if control / 0x40 == 1 then Some hole_at_512_kib else
    if control / 0x40 == 2 then Some hole_at_15_mib else None

abbrev pub is_in : Option (ℕ × ℕ) → ℕ → Bool
is_in None addr = false
is_in (Some hole) addr = lies_in hole addr

-- whether an address lies in the hole that FDHC makes
abbrev pub is_in_hole : Bytes → ℕ → Bool
is_in_hole bytes addr = is_in (hole_of (bytes fdhc)) addr

-- ---- shadow windows (82441FX, PAM)

-- PAM0's high nibble governs F0000h-FFFFFh. From C0000h on, the low and then the high nibble of PAM1 to
-- PAM6 govern the next two windows of 16 KiB
abbrev pub pam_register : ℕ → Reg
pam_register addr =
    if nat_le system_bios.0 addr then pam 0 else bridge ((pam 1).off + (addr - expansion_range.0) / 0x8000)

abbrev pub is_high_window : ℕ → Bool
is_high_window addr = nat_le system_bios.0 addr || addr / 0x4000 % 2 == 1

abbrev pub nibble : ℕ → Bool → ℕ
nibble byte true = byte / 0x10
nibble byte false = byte % 0x10

abbrev pub is_shadow_range : ℕ → Bool
is_shadow_range addr = lies_in shadow_range addr

-- bit 0 of the nibble opens the window for reads and fetches, bit 1 for writes (82441FX, PAM, RE and WE)
abbrev pub is_open : ℕ → Kind → Bool
is_open enables Fetch = is_bit enables 0
is_open enables Read = is_bit enables 0
is_open enables Write = is_bit enables 1

abbrev pub is_shadowed : Bytes → ℕ → Kind → Bool
is_shadowed bytes addr kind =
    is_shadow_range addr && is_open (nibble (bytes (pam_register addr)) (is_high_window addr)) kind

-- ---- SMRAM (82441FX)

abbrev pub is_fetch : Kind → Bool
is_fetch Fetch = true
is_fetch Read = false
is_fetch Write = false

-- the table of the datasheet over SMRAME, DCLS and DOPEN (82441FX, SMRAM register, SMRAM space cycles). Where DCLS and
-- DOPEN are both set, this board lets every fetch reach SMRAM and sends data to PCI (profile)
abbrev pub reaches_smram : (enabled closed opened : Bool) → Kind → Bool → Bool
reaches_smram false closed opened kind smm = false
reaches_smram true false opened kind smm = smm || opened
reaches_smram true true opened kind smm = is_fetch kind && (smm || opened)

abbrev pub smram_answers : ℕ → Kind → Bool → Bool
smram_answers control kind smm = reaches_smram (is_bit control 3) (is_bit control 5) (is_bit control 6) kind smm

-- whether the SMRAM register lets such an access through
abbrev pub is_smram_open : Bytes → Kind → Bool → Bool
is_smram_open bytes kind smm = smram_answers (bytes smram) kind smm

abbrev pub is_smram_range : ℕ → Bool
is_smram_range addr = lies_in smram_range addr

-- ---- the BIOS ROM (82371SB, XBCS)

-- the BIOS ranges, always or by bits 6 and 7: Lower BIOS Enable and Extended BIOS Enable (82371SB, XBCS)
abbrev pub is_rom_selected : ℕ → ℕ → Bool
is_rom_selected selects addr =
    lies_in system_bios addr
    || lies_in high_bios addr
    || is_bit selects 6 && (lies_in lower_bios addr || lies_in lower_high_bios addr)
    || is_bit selects 7 && lies_in extended_bios addr

-- whether XBCS selects the ROM at an address
abbrev pub is_bios_selected : Bytes → ℕ → Bool
is_bios_selected bytes addr = is_rom_selected (bytes xbcs) addr

-- ---- cards (PCI Local Bus 2.1, sections 6.2.2 and 6.2.5)

-- what a card decodes: its device, the number of its base, a place inside, and how many low bits do
-- not count. The expansion ROM counts as base 6 and the VGA window as base 7
pub record Window : Type 0 where
  pub dev : ℕ
  pub base : ℕ
  pub inside : ℕ
  pub bits : ℕ

abbrev pub is_covered : ℕ → Window → Bool
is_covered place window = window.inside / 2 ^ window.bits == place / 2 ^ window.bits

-- what base number k of a card holds, and what the register of its expansion ROM holds
abbrev pub base_value : Bytes → ℕ → ℕ → ℕ
base_value bytes dev k = wide (λ off. bytes (card_register dev off)) (base_register dev k).off Four

abbrev pub rom_value : Bytes → ℕ → ℕ
rom_value bytes dev = wide (λ off. bytes (card_register dev off)) (expansion_rom dev).off Four

-- the window of 2 ^ bits bytes or ports that base number k of a card decodes
abbrev pub base_window : Bytes → ℕ → ℕ → ℕ → List Window
base_window bytes dev k bits = record { dev = dev; base = k; inside = base_value bytes dev k; bits = bits } ∷ []

-- in memory, whoever keeps its bytes, and among the ports
abbrev pub memory_window : Bytes → ℕ → ℕ → Base → List Window
memory_window bytes dev k (MemoryBase bits) = base_window bytes dev k bits
memory_window bytes dev k (IoBase bits) = []
memory_window bytes dev k (OutsideBase bits) = base_window bytes dev k bits

abbrev pub io_window : Bytes → ℕ → ℕ → Base → List Window
io_window bytes dev k (MemoryBase bits) = []
io_window bytes dev k (IoBase bits) = base_window bytes dev k bits
io_window bytes dev k (OutsideBase bits) = []

-- the window of a card's expansion ROM, where it has one
abbrev pub rom_window_of : Bytes → ℕ → Option ℕ → List Window
rom_window_of bytes dev None = []
rom_window_of bytes dev (Some bits) = record {
  dev = dev;
  base = rom_base;
  inside = rom_value bytes dev;
  bits = bits;
} ∷ []

abbrev pub rom_window : Bytes → FittedCard → List Window
rom_window bytes card = rom_window_of bytes card.dev card.rom

-- bit 0 of the ROM's register selects it (PCI Local Bus 2.1, section 6.2.5.2)
abbrev pub is_rom_on : Bytes → ℕ → Bool
is_rom_on bytes dev = is_bit (bytes (expansion_rom dev)) 0

abbrev pub vga_window : FittedCard → List Window
vga_window card =
    if card.vga then record { dev = card.dev; base = vga_base; inside = smram_range.0; bits = vga_bits } ∷ [] else []

-- the memory windows of a card in the order of their base numbers
abbrev pub memory_windows : Bytes → FittedCard → List Window
memory_windows bytes card =
    flat_map (λ numbered. memory_window bytes card.dev numbered.0 numbered.1) (enumerate_from 0 card.bases)
    ++ (if is_rom_on bytes card.dev then rom_window bytes card else [])
    ++ vga_window card

-- the windows of expansion ROMs that are not selected
abbrev pub unselected_windows : Bytes → FittedCard → List Window
unselected_windows bytes card = if is_rom_on bytes card.dev then [] else rom_window bytes card

abbrev pub io_windows : Bytes → FittedCard → List Window
io_windows bytes card =
    flat_map (λ numbered. io_window bytes card.dev numbered.0 numbered.1) (enumerate_from 0 card.bases)

-- bit 1 of a card's command enables its memory, bit 0 its ports (PCI Local Bus 2.1, section 6.2.2)
abbrev pub is_enabled_for : ℕ → Bytes → ℕ → Bool
is_enabled_for command_bit bytes dev = is_bit (bytes (card_command dev)) command_bit

-- the first window, by device and then by base, that is enabled, or that is not, and covers a place
abbrev pub first_window : (ℕ → Bool) → ℕ → List Window → Option Window
first_window counts place windows = find (λ window. counts window.dev && is_covered place window) windows

unfoldable pub memory_claim : Setup → Bytes → ℕ → Option Window
memory_claim setup bytes addr = first_window (is_enabled_for 1 bytes) addr (flat_map (memory_windows bytes) setup.cards)

unfoldable pub memory_shut : Setup → Bytes → ℕ → Option Window
memory_shut setup bytes addr =
    first_window (λ dev. not (is_enabled_for 1 bytes dev)) addr (flat_map (memory_windows bytes) setup.cards)

-- the least card whose memory is enabled and whose expansion ROM covers the address but is not selected
unfoldable pub rom_unselected : Setup → Bytes → ℕ → Option Window
rom_unselected setup bytes addr =
    first_window (is_enabled_for 1 bytes) addr (flat_map (unselected_windows bytes) setup.cards)

unfoldable pub io_claim : Setup → Bytes → ℕ → Option Window
io_claim setup bytes port = first_window (is_enabled_for 0 bytes) port (flat_map (io_windows bytes) setup.cards)

unfoldable pub io_shut : Setup → Bytes → ℕ → Option Window
io_shut setup bytes port =
    first_window (λ dev. not (is_enabled_for 0 bytes dev)) port (flat_map (io_windows bytes) setup.cards)

-- the command register of a shut window's card, and the register of an expansion ROM that is not selected
abbrev pub command_of : Window → Denial
command_of window = Register (card_command window.dev)

abbrev pub rom_register_of : Window → Denial
rom_register_of window = Register (expansion_rom window.dev)

-- ---- the memory map

abbrev pub card_area : Window → Area
card_area window = Card window.dev window.base

-- the areas of the memory map in the order in which they answer, over what the registers say of the
-- address: its row of DRAM, whether SMRAM answers, its shadow window is open, it lies in the hole,
-- the ROM is selected, and the card that claims it (`law_areas` says who answers where; 82441FX, System Address Map)
abbrev pub area_under : (row : Option ℕ) → (opened shadowed hole rom : Bool) → (claim : Option Window) → ℕ → Area
area_under row opened shadowed hole rom claim addr =
    first_of
    (line_where (is_smram_range addr && is_some row && opened) Smram
    ∷ line_where (is_some row && shadowed) (Shadow (unwrap_or row 0))
    ∷ line_where (not (lies_in upper_memory addr) && is_some row && not hole) (Dram (unwrap_or row 0))
    ∷ line_where rom Rom
    ∷ option_map card_area claim
    ∷ [])
    Abort

unfoldable pub area_of : Setup → Bytes → ℕ → Kind → Bool → Area
area_of setup bytes addr kind smm =
    area_under
    (row_of bytes addr)
    (is_smram_open bytes kind smm)
    (is_shadowed bytes addr kind)
    (is_in_hole bytes addr)
    (is_bios_selected bytes addr)
    (memory_claim setup bytes addr)
    addr

-- ---- denials

-- the register that keeps an address from everybody, or none
abbrev pub abort_denial : (top : ℕ) → (shut unselected : Option Window) → ℕ → Denial
abort_denial top shut unselected addr =
    first_of
    (line_where (lies_in selectable_bios addr) (Register xbcs)
    ∷ line_where (is_smram_range addr && nat_lt 0 top) (Register smram)
    ∷ line_where (lies_in expansion_range addr && nat_lt 0 top) (Register (pam_register addr))
    ∷ line_where (nat_lt addr top) (Register fdhc)
    ∷ option_map command_of shut
    ∷ option_map rom_register_of unselected
    ∷ line_where (nat_lt addr largest_top) (Register (drb 7))
    ∷ [])
    NoRegister

-- a write to the ROM is denied by XBCS bit 2, or by the chip itself (82371SB, XBCS, BIOSCS# Write Protect)
abbrev pub rom_denial : ℕ → Denial
rom_denial selects = if is_bit selects 2 then NoRegister else Register xbcs

-- an access is denied where nobody answers it, or where it writes to the ROM
abbrev pub denial_in : Area → Kind → (abort rom : Denial) → Option Denial
denial_in Abort kind abort rom = Some abort
denial_in Rom Write abort rom = Some rom
denial_in Rom Fetch abort rom = None
denial_in Rom Read abort rom = None
denial_in _ kind abort rom = None

unfoldable pub denial_of : Setup → Bytes → ℕ → Kind → Bool → Option Denial
denial_of setup bytes addr kind smm =
    denial_in (area_of setup bytes addr kind smm) kind
    (abort_denial (top_of bytes) (memory_shut setup bytes addr) (rom_unselected setup bytes addr) addr)
    (rom_denial (bytes xbcs))
