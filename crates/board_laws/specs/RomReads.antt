-- What a guest reads of memory where expansion ROMs were given bytes.
use Rattle.std.specs.Prelude.{ℕ, ◌≡◌, ◌≢◌, ◌+◌, ◌<◌, ◌==◌, Bool, if◌then◌else◌, List, [], All, Option, Some, None}
use Rattle.std.specs.Prelude.{slice_index}
use Rattle.board_prelude.specs.{Kind, One, WideAccess, bytes_of, Target, Card, Entry, Setup, Event, Memory, Wide}
use Rattle.board_prelude.specs.{IsSetup, IsInRange, IsAnswer, byte, is_write, memory_target, value_at, rom_base}
use Rattle.board_prelude.specs.{address_count}
use Rattle.board_base.specs.declared.access.Access.{Access}
use Rattle.board_spec.specs.declared.event.Reply.{Reply}
use Rattle.machine.specs.Roms.{given, rom_byte}
use Rattle.machine_records.specs.declared.event.EventRecord.{EventRecord}
use Rattle.machine_records.specs.Replies.{AfterStep}
use Rattle.machine_records.specs.Replies.{record_said}
use Rattle.machine_records.specs.declared.reply.PartRecord.{PartRecord}
use Rattle.machine_records.specs.declared.reply.ReplyRecord.{ReplyRecord}
use Rattle.machine_records.specs.Numbers.{card_target}
use Rattle.machine_records.specs.RomReplies.{parts_said, with_roms}

-- ---- one byte

-- what a read of one byte gives that has this target, at this address: of an expansion ROM the byte that it was given,
-- or where it was given none its fixed one, and of all else what the chipset gives
abbrev pub byte_of : (roms : List (List ℕ)) → Setup → List Entry → Target → (addr : ℕ) → ℕ
byte_of roms setup before (Card dev base off) addr =
    if base == rom_base then rom_byte roms dev off else value_at setup before (Card dev base off) addr One
byte_of roms setup before target addr = value_at setup before target addr One

abbrev pub byte_access : Kind → (smm : Bool) → (addr : ℕ) → Access
byte_access kind smm addr = record { kind = kind; addr = addr; width = One; smm = smm; value = 0 }

-- what a read of the byte at an address gives
abbrev pub byte_read : (roms : List (List ℕ)) → Setup → List Entry → Kind → (smm : Bool) → (addr : ℕ) → ℕ
byte_read roms setup before kind smm addr =
    byte_of roms setup before (memory_target setup before (byte_access kind smm addr)) addr

-- ---- every read

-- the bytes of the BIOS ROM and those that expansion ROMs were given are bytes
pub record AreBytes (setup : Setup) (roms : List (List ℕ)) : Type 0 where
  pub rom : (at : ℕ) → slice_index setup.rom at < 256
  pub given : (dev at : ℕ) → slice_index (given roms dev) at < 256

-- the bytes that an event reads of memory
abbrev pub read_by : Event → Option WideAccess
read_by (Memory access) =
    if is_write access.kind then None
    else Some (record {
      kind = access.kind;
      bytes = bytes_of access.width;
      smm = access.smm;
      addr = access.addr;
      value = 0;
    })
read_by (Wide access) = if is_write access.kind then None else Some access
read_by _ = None

-- a record says the bytes that an event in range reads
pub record SaysRead (setup : Setup) (said : EventRecord) (event : Event) (read : WideAccess) : Type 0 where
  pub range : IsInRange setup event
  pub reads : read_by event ≡ Some read
  pub addr : said.addr ≡ read.addr
  pub bytes : said.bytes ≡ read.bytes
  pub address : read.addr < address_count

-- each byte of the value is what a read of that byte alone gives at its address
abbrev pub ReadsByteByByte : Type 0
ReadsByteByByte =
    (setup : Setup) (before : List Entry) (roms : List (List ℕ)) (said : EventRecord) (event : Event)
    (read : WideAccess)
    (reply : Reply) (after : AfterStep) (k : ℕ) →
    IsSetup setup → AreBytes setup roms → SaysRead setup said event read → IsAnswer setup before event reply →
    k < read.bytes →
    byte (with_roms roms said (record_said reply after)).value k
    ≡ byte_read roms setup before read.kind read.smm (read.addr + k)

-- ---- replies of the chipset alone

-- an expansion ROM answered, and it was given bytes
pub record IsOfGivenRom (roms : List (List ℕ)) (part : PartRecord) : Type 0 where
  pub card : part.target ≡ card_target
  pub base : part.base ≡ rom_base
  pub given : given roms part.unit ≢ []

-- a reply of which no such ROM answered a part is the chipset's own
abbrev pub OtherRepliesStay : Type 0
OtherRepliesStay =
    (roms : List (List ℕ)) (event : EventRecord) (reply : ReplyRecord) →
    All (λ part. ¬ IsOfGivenRom roms part) (parts_said reply) → with_roms roms event reply ≡ reply

-- and of every other all but the value is
abbrev pub OnlyValueChanges : Type 0
OnlyValueChanges =
    (roms : List (List ℕ)) (event : EventRecord) (reply : ReplyRecord) →
    record (with_roms roms event reply) { value = reply.value } ≡ reply
