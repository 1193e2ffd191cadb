-- The fields of an image, each with the values that it can have after those before it, and the first that is bad.
use Rattle.std.specs.Prelude.{ℕ, zero, suc, ◌≡◌, ◌+◌, ◌-◌, ◌==◌, Bool, true, false, nat_le, ◌&&◌, ◌||◌, if◌then◌else◌, List}
use Rattle.std.specs.Prelude.{[], ◌∷◌, length, Option, Some, None, Err}
use Rattle.board_prelude.specs.{w8, w16, w32, Statement, Base, MemoryBase, IoBase, OutsideBase, FittedCard, Setup}
use Rattle.board_prelude.specs.{is_base_in_range, is_rom_in_range, is_rom_size, is_disk_length, memory_of_cards}
use Rattle.board_prelude.specs.{memory_size, most_statements, most_card_memory}
use Rattle.board_image.specs.declared.head.Head.{Head}
use Rattle.board_image.specs.ImageBytes.{Saved, magic, image_version, io_base, keeps_bytes, outside_base}
use Rattle.byte_fields.specs.Fields.{Reading, gives, ◌>>=◌, number, number_where, within, where_true, plain, exactly}
use Rattle.byte_fields.specs.Fields.{ended, flag_field}
use Rattle.board_image.specs.EventFields.{step_fields}

-- ---- the head

-- the length of a disk, and 0 without one
abbrev pub has_disk_size : (has_disk : Bool) → ℕ → Bool
has_disk_size false size = size == 0
has_disk_size true size = is_disk_length size

unfoldable pub head_fields : Reading Head
head_fields = do
  mark ← exactly magic
  version ← within w16 image_version image_version
  mib ← within w8 1 64
  cards ← within w8 0 8
  has_disk ← flag_field
  reserved ← within w8 0 0
  rom_size ← number_where w32 is_rom_size
  disk_size ← number_where w32 (has_disk_size has_disk)
  steps ← within w32 0 most_statements
  gives (record {
    mib = mib;
    cards = cards;
    has_disk = has_disk;
    rom_size = rom_size;
    disk_size = disk_size;
    steps = steps;
  })

-- ---- the cards

abbrev pub base_of_byte : ℕ → Base
base_of_byte byte =
    if nat_le io_base byte then IoBase (byte - io_base) else
    if nat_le outside_base byte then OutsideBase (byte - outside_base) else MemoryBase byte

-- whether a base can stand there: one of which the board keeps no bytes is of a running board, and of no image
abbrev pub can_stand : (outside : Bool) → Base → Bool
can_stand outside base = outside || keeps_bytes base

-- a base that a card can have there, whose memory is no more than is left for it
abbrev pub has_room : (outside : Bool) (room : ℕ) → Base → Bool
has_room outside room base = is_base_in_range base && nat_le (memory_size base) room && can_stand outside base

-- a base where so many bytes are left for memory
abbrev pub base_in : (outside : Bool) (room : ℕ) → ℕ → Option Base
base_in outside room byte = where_true (has_room outside room (base_of_byte byte)) (base_of_byte byte)

unfoldable pub bases_fields : (outside : Bool) (count room : ℕ) → Reading (List Base)
bases_fields outside zero room = gives []
bases_fields outside (suc count) room = do
  base ← number w8 (base_in outside room)
  later ← bases_fields outside count (room - memory_size base)
  gives (base ∷ later)

-- 0, or an expansion ROM that a card can have
abbrev pub rom_of : ℕ → Option (Option ℕ)
rom_of bits = if bits == 0 then Some None else where_true (is_rom_in_range (Some bits)) (Some bits)

-- a card whose device number lies above that of the card before
unfoldable pub card_fields : (outside : Bool) (above room : ℕ) → Reading FittedCard
card_fields outside above room = do
  dev ← within w8 (above + 1) 9
  vga ← flag_field
  rom ← number w8 rom_of
  count ← within w8 0 6
  bases ← bases_fields outside count room
  gives (record { dev = dev; vga = vga; bases = bases; rom = rom })

unfoldable pub cards_fields : (outside : Bool) (count above room : ℕ) → Reading (List FittedCard)
cards_fields outside zero above room = gives []
cards_fields outside (suc count) above room = do
  card ← card_fields outside above room
  later ← cards_fields outside count card.dev (room - memory_of_cards (card ∷ []))
  gives (card ∷ later)

-- ---- the whole

abbrev pub disk_where : (has_disk : Bool) → List ℕ → Option (List ℕ)
disk_where false bytes = None
disk_where true bytes = Some bytes

-- the first device number is 2, and the board keeps the bytes of all bases
unfoldable pub setup_fields : Head → Reading Setup
setup_fields head = do
  cards ← cards_fields false head.cards 1 most_card_memory
  rom ← plain head.rom_size
  disk ← plain head.disk_size
  gives (record { mib = head.mib; cards = cards; rom = rom; disk = disk_where head.has_disk disk })

unfoldable pub steps_fields : Setup → (count : ℕ) → Reading (List Statement)
steps_fields setup zero = gives []
steps_fields setup (suc count) = do
  step ← step_fields setup
  later ← steps_fields setup count
  gives (step ∷ later)

unfoldable pub saved_fields : Reading Saved
saved_fields = do
  head ← head_fields
  setup ← setup_fields head
  steps ← steps_fields setup head.steps
  gives (record { setup = setup; steps = steps })

-- nothing follows the last step
unfoldable pub image_fields : Reading Saved
image_fields = do
  saved ← saved_fields
  done ← ended
  gives saved

-- the field at this offset is the first that is not whole or out of range, or the first byte too many
pub record IsBadAt (bytes : List ℕ) (at : ℕ) : Type 0 where
  pub left : ℕ
  pub place : at + left ≡ length bytes
  pub bad : image_fields bytes ≡ Err left
