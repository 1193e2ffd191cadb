-- The shadow windows by their numbers (82441FX, PAM): 0 to 11 have 16 KiB each from the first address of
-- the expansion range on, and 12 is the system BIOS.
use Rattle.std.specs.Prelude.{ℕ, ◌+◌, ◌-◌, ◌*◌, ◌/◌, ◌==◌, if◌then◌else◌}
use Rattle.board_prelude.specs.{pam, expansion_range, system_bios}

abbrev pub last_window : ℕ
last_window = 12

-- how many bytes each of the others has
abbrev pub window_size : ℕ
window_size = 0x4000

abbrev pub first_address : ℕ → ℕ
first_address index = expansion_range.0 + window_size * index

abbrev pub last_address : ℕ → ℕ
last_address index = if index == last_window then system_bios.1 else first_address (index + 1) - 1

-- the offset of a window's PAM register: PAM0 has the last window alone, and PAM1 to PAM6 have two each
abbrev pub register_offset : ℕ → ℕ
register_offset index = if index == last_window then (pam 0).off else (pam 1).off + index / 2
