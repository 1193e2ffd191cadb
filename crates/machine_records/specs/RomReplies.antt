-- The record of a reply where expansion ROMs were given bytes: that of the chipset's reply, with these in the place of
-- those that it gives them.
use Rattle.std.specs.Prelude.{ℕ, ◌+◌, ◌-◌, ◌==◌, ◌&&◌, ◌||◌, not, nat_lt, Bool, if◌then◌else◌, length, List, [], ◌∷◌}
use Rattle.std.specs.Prelude.{Option, Some, None}
use Rattle.board_prelude.specs.{w64, from_le_bytes, byte, bytes_of, longest_at, rom_base}
use Rattle.machine.specs.Roms.{byte_over, given}
use Rattle.machine_records.specs.declared.event.EventRecord.{EventRecord}
use Rattle.machine_records.specs.declared.reply.PartRecord.{PartRecord}
use Rattle.machine_records.specs.declared.reply.ReplyRecord.{ReplyRecord}
use Rattle.machine_records.specs.Numbers.{card_target}

-- an expansion ROM answered that was given bytes
abbrev pub is_given : List (List ℕ) → PartRecord → Bool
is_given roms part =
    (part.target == card_target) && (part.base == rom_base) && not (length (given roms part.unit) == 0)

abbrev pub reads_given : List (List ℕ) → ReplyRecord → Bool
reads_given roms said =
    (said.has_value == 1) &&
    (is_given roms said.part0 || is_given roms said.part1 || is_given roms said.part2 || is_given roms said.part3)

abbrev pub parts_said : ReplyRecord → List PartRecord
parts_said said = said.part0 ∷ said.part1 ∷ said.part2 ∷ said.part3 ∷ []

-- which part moved a byte of so many from an address on, of which the parts before moved some, and which of that part's
-- bytes it is: the bus cuts what is left (`longest_at`)
unfoldable pub part_of : List PartRecord → (addr bytes before place : ℕ) → Option (PartRecord × ℕ)
part_of [] addr bytes before place = None
part_of (part ∷ later) addr bytes before place =
    let after = before + bytes_of (longest_at (addr + before) (bytes - before)) in
    if nat_lt place after then Some (part, place - before) else part_of later addr bytes after place

abbrev pub byte_by : List (List ℕ) → Option (PartRecord × ℕ) → (old : ℕ) → ℕ
byte_by roms None old = old
byte_by roms (Some by) old =
    if is_given roms by.0 then byte_over roms by.0.unit (by.0.offset + by.1) old else old

-- a byte of the value
unfoldable pub byte_told : List (List ℕ) → EventRecord → ReplyRecord → (place : ℕ) → ℕ
byte_told roms event said place =
    byte_by roms (part_of (parts_said said) event.addr event.bytes 0 place) (byte said.value place)

abbrev pub bytes_told : List (List ℕ) → EventRecord → ReplyRecord → List ℕ
bytes_told roms event said =
    byte_told roms event said 0
    ∷ byte_told roms event said 1
    ∷ byte_told roms event said 2
    ∷ byte_told roms event said 3
    ∷ byte_told roms event said 4
    ∷ byte_told roms event said 5
    ∷ byte_told roms event said 6
    ∷ byte_told roms event said 7
    ∷ []

abbrev pub with_roms : List (List ℕ) → EventRecord → ReplyRecord → ReplyRecord
with_roms roms event said =
    if reads_given roms said then record said { value = from_le_bytes w64 (bytes_told roms event said) } else said
