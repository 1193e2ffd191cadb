-- The bytes that expansion ROMs were given, by the device numbers of their cards.
use Rattle.std.specs.Prelude.{ℕ, ◌+◌, ◌-◌, ◌≤◌, ◌==◌, ◌&&◌, nat_le, nat_lt, if◌then◌else◌, List, [], get_or, length}
use Rattle.std.specs.Prelude.{slice_index, Option, unwrap_or}
use Rattle.board_prelude.specs.{expansion_byte}

-- where no ROM was given any, nothing is kept
abbrev pub roms_in : Option (List (List ℕ)) → List (List ℕ)
roms_in roms = unwrap_or roms []

-- those of the card at a device, from the ROM's first on
abbrev pub given : List (List ℕ) → (dev : ℕ) → List ℕ
given roms dev = get_or roms dev []

-- all bytes of the ROM of the card at a device, which has so many, are kept: to change them takes no memory
abbrev pub IsKept : List (List ℕ) → (dev size : ℕ) → Type 0
IsKept roms dev size = size ≤ length (given roms dev)

-- the byte at an offset that was given, and else the one that is there
abbrev pub byte_in : List ℕ → (off old : ℕ) → ℕ
byte_in bytes off old = if nat_lt off (length bytes) then slice_index bytes off else old

abbrev pub byte_over : List (List ℕ) → (dev off old : ℕ) → ℕ
byte_over roms dev off old = byte_in (given roms dev) off old

-- what a read gives of a ROM: else the byte that the board has there
abbrev pub rom_byte : List (List ℕ) → (dev off : ℕ) → ℕ
rom_byte roms dev off = byte_over roms dev off (expansion_byte dev off)

-- a byte after others were written from an offset on, and after they were put into the ROM of a card
abbrev pub byte_after : (off : ℕ) → List ℕ → (at old : ℕ) → ℕ
byte_after off bytes at old =
    if nat_le off at && nat_lt at (off + length bytes) then slice_index bytes (at - off) else old

abbrev pub put_byte : (dev off : ℕ) → List ℕ → (d at old : ℕ) → ℕ
put_byte dev off bytes d at old = if d == dev then byte_after off bytes at old else old
