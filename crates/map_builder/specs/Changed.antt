-- The windows of the address map that each register byte governs, and the bounds of those that a change may change.
use Rattle.std.specs.Prelude.{ℕ, ◌+◌, ◌-◌, ◌*◌, ◌/◌, ◌^◌, ◌<◌, ◌⊎◌, ◌==◌, nat_lt, nat_le, Bool, false, ◌&&◌}
use Rattle.std.specs.Prelude.{length, if◌then◌else◌, List, [], ◌∷◌, ◌++◌, take, map, filter, flat_map, Option, Some}
use Rattle.std.specs.Prelude.{None, unwrap_or}
use Rattle.board_prelude.specs.{option_map_or, enumerate_from, list_any, Reg, bytes_of, MapChange, Store, Reset}
use Rattle.board_prelude.specs.{FittedCard, Setup, card_at, Bytes, Window, memory_window, rom_window, vga_window}
use Rattle.board_prelude.specs.{expansion_range, system_bios, largest_top, address_count, changed_byte, reg_after}
use Rattle.addr_decode.specs.declared.register.MapRegister.{MapRegister}
use Rattle.addr_decode.specs.declared.register.MapRegister.TheVariants.{Pam, RowBoundary, Single, Card}
use Rattle.addr_decode.specs.declared.register.CardRegister.{CardRegister}
use Rattle.addr_decode.specs.declared.register.CardRegister.TheVariants.{Command, Base, ExpansionRom}
use Rattle.addr_decode.specs.MapRegister.{is_of_card, map_register}
use Rattle.addr_decode.specs.Edges.{edges_of, first_address}
use Rattle.addr_decode.specs.Singles.{decided}
use Rattle.map_builder.specs.declared.range.Changed.{Changed}
pub use Rattle.map_builder.specs.Bounds.{from_to, both, joined}
unfoldable pub use Rattle.map_builder.specs.Bounds.{bounds}

-- every address of a range
abbrev pub whole : ℕ × ℕ → Changed
whole range = from_to range.0 range.1

-- every address
abbrev pub everything : Changed
everything = from_to 0 (address_count - 1)

-- ---- the windows that a register byte governs

-- how many addresses the two windows of PAM1 to PAM6 have
abbrev pub pam_size : ℕ
pam_size = 0x8000

-- those of PAM0, the system BIOS, and of PAM1 to PAM6, two shadow windows of 16 KiB each
abbrev pub pam_windows : (number : ℕ) → Changed
pam_windows number =
    if number == 0 then whole system_bios
    else from_to (expansion_range.0 + pam_size * (number - 1))
    (expansion_range.0 + (pam_size - 1) + pam_size * (number - 1))

-- what a window of a card decodes
abbrev pub decoded : Window → Changed
decoded window = from_to (first_address window) (first_address window + (2 ^ window.bits - 1))

-- the memory bases of a card
abbrev pub base_windows : Bytes → FittedCard → List Window
base_windows bytes card =
    flat_map (λ numbered. memory_window bytes card.dev numbered.0 numbered.1) (enumerate_from 0 card.bases)

-- a card. The command: every memory base, the expansion ROM, selected or not, and the VGA window. A base register:
-- the base, where it is for memory. The ROM's register: the ROM
abbrev pub card_windows : Bytes → CardRegister → FittedCard → List Changed
card_windows bytes Command card = map decoded (base_windows bytes card ++ rom_window bytes card ++ vga_window card)
card_windows bytes (Base k) card = map decoded (filter (λ window. window.base == k / 4) (base_windows bytes card))
card_windows bytes (ExpansionRom k) card = map decoded (rom_window bytes card)

-- those of each register of one byte, by its number: the ranges that it decides
abbrev pub single_windows : (number : ℕ) → List Changed
single_windows number = map whole (decided number)

-- where the registers hold these bytes. The boundaries: every address that a row can have
abbrev pub register_windows : Setup → Bytes → MapRegister → List Changed
register_windows setup bytes (Pam number) = pam_windows number ∷ []
register_windows setup bytes (RowBoundary row) = from_to 0 (largest_top - 1) ∷ []
register_windows setup bytes (Single number) = single_windows number
register_windows setup bytes (Card dev register) = option_map_or (card_windows bytes register) (card_at setup dev) []

-- a register without a name governs none
abbrev pub name_windows : Setup → Bytes → Option MapRegister → List Changed
name_windows setup bytes None = []
name_windows setup bytes (Some register) = register_windows setup bytes register

abbrev pub windows_of : Setup → Bytes → Reg → List Changed
windows_of setup bytes reg = name_windows setup bytes (map_register setup.cards reg)

-- ---- the windows that a change may change

-- those of the bytes that it covers. A hard reset covers them all
unfoldable pub windows_covered : Setup → Bytes → MapChange → List Changed
windows_covered setup bytes Reset = everything ∷ []
windows_covered setup bytes (Store reg width value) =
    flat_map (λ k. windows_of setup bytes (reg_after reg k)) (take (bytes_of width) (0 ∷ 1 ∷ 2 ∷ 3 ∷ []))

-- the registers after a change
abbrev pub after : Setup → MapChange → Bytes → Bytes
after setup change bytes = λ reg. changed_byte setup change reg (bytes reg)

-- by what the registers held before the whole change, and by what they hold after it: a base may have moved
abbrev pub changed_windows : Setup → Bytes → MapChange → List Changed
changed_windows setup bytes change =
    windows_covered setup bytes change ++ windows_covered setup (after setup change bytes) change

-- the windows of registers with these names rest on what the registers hold: one of them is of a card
abbrev pub is_card_name : Option MapRegister → Bool
is_card_name None = false
is_card_name (Some register) = is_of_card register

abbrev pub rest_on_registers : List (Option MapRegister) → Bool
rest_on_registers names = list_any is_card_name names

-- ---- their bounds

-- both are 0 where there is no window
abbrev pub bounds_or_zero : List Changed → Changed
bounds_or_zero windows = unwrap_or (bounds windows) (from_to 0 0)

-- an address lies outside an interval
abbrev pub IsOutside : (addr : ℕ) → Changed → Type 0
IsOutside addr interval = (addr < interval.lo) ⊎ (interval.hi < addr)

-- ---- how many rows a change looks up at most

-- an address lies in a window, above its first address
abbrev pub is_above_first : ℕ → Changed → Bool
is_above_first addr window = nat_lt window.lo addr && nat_le addr window.hi

abbrev pub is_inside : List Changed → ℕ → Bool
is_inside windows addr = list_any (is_above_first addr) windows

-- the edges inside some windows
abbrev pub edges_inside : Setup → Bytes → List Changed → ℕ
edges_inside setup bytes windows = length (filter (is_inside windows) (edges_of setup bytes))

abbrev pub is_window : Changed → Changed → Bool
is_window window other = window.lo == other.lo && window.hi == other.hi

-- how many windows there are, of which several may be the same
unfoldable pub count_of : List Changed → ℕ
count_of [] = 0
count_of (window ∷ later) = count_of later + (if list_any (is_window window) later then 0 else 1)

-- one row for each window, and one for each edge that lies inside them after the change
abbrev pub most_rows : Setup → Bytes → MapChange → ℕ
most_rows setup bytes change =
    count_of (changed_windows setup bytes change) + edges_inside setup (after setup change bytes)
    (changed_windows setup bytes change)
