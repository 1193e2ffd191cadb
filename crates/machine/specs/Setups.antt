-- What a board is fitted with, as bytes. Of the ROM and of the disk the pages that are not all zeros.
use Rattle.std.specs.Prelude.{ℕ, ◌==◌, ◌||◌, ◌++◌, Bool, true, if◌then◌else◌, List, [], ◌∷◌, length, flat_map, Option}
use Rattle.std.specs.Prelude.{Some, None, unwrap_or}
use Rattle.board_prelude.specs.{w8, w32, to_le_bytes, most_mib, most_card_memory, Setup, is_rom_size, is_disk_length}
use Rattle.byte_fields.specs.Fields.{Reading, gives, ◌>>=◌, within, number_where}
use Rattle.byte_fields.specs.Pages.{memory_bytes, memory_fields}
use Rattle.board_image.specs.ImageBytes.{card_bytes}
use Rattle.board_chipset.specs.Given.{fitted_with, unless_left}
use Rattle.board_image.specs.ImageFields.{cards_fields}

-- how many bytes, and these
abbrev pub counted_bytes : List ℕ → List ℕ
counted_bytes bytes = to_le_bytes w32 (length bytes) ++ memory_bytes bytes

unfoldable pub rom_fields : Reading (List ℕ)
rom_fields = do
  size ← number_where w32 is_rom_size
  memory_fields size

-- a disk has one sector or more: no bytes are none
abbrev pub is_fitted_size : ℕ → Bool
is_fitted_size size = size == 0 || is_disk_length size

abbrev pub disk_where : ℕ → List ℕ → Option (List ℕ)
disk_where size bytes = if size == 0 then None else Some bytes

unfoldable pub disk_fields : Reading (Option (List ℕ))
disk_fields = do
  size ← number_where w32 is_fitted_size
  bytes ← memory_fields size
  gives (disk_where size bytes)

abbrev pub bytes_on : Option (List ℕ) → List ℕ
bytes_on disk = unwrap_or disk []

-- the memory in MiB, the cards with their count, the ROM, and the disk

unfoldable pub setup_fields : Reading Setup
setup_fields = do
  mib ← within w32 1 most_mib
  count ← within w8 0 8
  cards ← cards_fields true count 1 most_card_memory
  rom ← rom_fields
  disk ← disk_fields
  gives (record { mib = mib; cards = cards; rom = rom; disk = disk })

abbrev pub setup_bytes : Setup → List ℕ
setup_bytes setup =
    to_le_bytes w32 setup.mib
    ++ length setup.cards
    ∷ (flat_map card_bytes setup.cards ++ (counted_bytes setup.rom ++ counted_bytes (bytes_on setup.disk)))

-- ---- a setup, with the bytes of its disk left out or not

abbrev pub disk_unless_left : (left : Bool) → Setup → Setup
disk_unless_left left setup = fitted_with (unless_left left (bytes_on setup.disk)) setup

-- ---- memory, read in two parts

unfoldable pub parts_fields : (first more : ℕ) → Reading (List ℕ)
parts_fields first more = do
  bytes ← memory_fields first
  later ← memory_fields more
  gives (bytes ++ later)
