-- The answer to an event after a history.
use Rattle.std.specs.Prelude.{ℕ, ◌≡◌, ◌%◌, ◌^◌, ◌==◌, Bool, if◌then◌else◌, List, length, slice_get, slice_index, Option}
use Rattle.std.specs.Prelude.{Some, None, is_some, unwrap_or, map}
use Rattle.board_base.specs.declared.access.Width.{Width}
use Rattle.board_base.specs.declared.access.Kind.{Kind}
use Rattle.board_base.specs.declared.access.PortAccess.{PortAccess}
use Rattle.board_base.specs.declared.access.WideAccess.{WideAccess}
use Rattle.board_base.specs.declared.target.Area.{Area}
use Rattle.board_base.specs.declared.target.Dev.{Dev}
use Rattle.board_base.specs.declared.target.Dev.TheVariants.{Reset, Confadd, Clock}
use Rattle.std.specs.Option.{option_map_or}
use Rattle.board_base.specs.declared.target.Target.{Target}
use Rattle.board_base.specs.declared.target.Target.TheVariants.{Dram, Shadow, Smram, Rom, Card, Device, Config, Abort}
use Rattle.board_base.specs.declared.target.Denial.{Denial}
use Rattle.board_base.specs.Access.{largest_of}
use Rattle.board_base.specs.declared.access.Access.{Access}
use Rattle.board_base.specs.declared.target.Area.TheVariants.{Dram as DramArea, Shadow as ShadowArea}
use Rattle.board_base.specs.declared.target.Area.TheVariants.{Smram as SmramArea, Rom as RomArea, Card as CardArea}
use Rattle.board_base.specs.declared.target.Area.TheVariants.{Abort as AbortArea}
use Rattle.board_spec.specs.declared.event.Event.{Event}
use Rattle.board_spec.specs.declared.event.Event.TheVariants.{Memory, Wide, Port, Look as LookAt, Ack}
use Rattle.board_spec.specs.declared.event.Look.{Look}
use Rattle.board_spec.specs.declared.event.Reply.{Reply}
use Rattle.board_spec.specs.declared.event.Part.{Part}
use Rattle.board_spec.specs.declared.event.Parts.{Parts}
use Rattle.board_spec.specs.declared.event.Reply.TheVariants.{Bus, Parts as InParts, Saw}
use Rattle.board_spec.specs.declared.event.Entry.{Entry}
use Rattle.board_spec.specs.Setup.{Base, MemoryBase, IoBase, OutsideBase, FittedCard, Setup, card_at, rom_base}
use Rattle.board_spec.specs.Setup.{vga_base, vga_bits}
use Rattle.board_spec.specs.Bits.{wide}
use Rattle.board_spec.specs.Registers.{reset_control, config_address, byte_of}
use Rattle.board_spec.specs.MapWrites.{version_of}
use Rattle.board_spec.specs.Decode.{area_of, denial_of}
use Rattle.board_spec.specs.Ports.{port_target_of}
use Rattle.board_spec.specs.FlatMap.{IsSpan}
use Rattle.board_spec.specs.Stimuli.{stimulus_form, applied_by}
use Rattle.board_spec.specs.Stored.{dram_byte, card_byte, is_write}
use Rattle.board_spec.specs.WideParts.{parts_of, parts_list, joined}
use Rattle.board_spec.specs.Interrupts.{device_value, vector_of, acknowledged_by}

-- ---- targets

-- a card's base of 2 ^ bits bytes. Base 6 is its expansion ROM, and base 7 the VGA window of 128 KiB
abbrev pub bits_of_base : Option Base → ℕ
bits_of_base None = 0
bits_of_base (Some (MemoryBase bits)) = bits
bits_of_base (Some (IoBase bits)) = bits
bits_of_base (Some (OutsideBase bits)) = bits

abbrev pub base_of_card : Option FittedCard → ℕ → Option Base
base_of_card None base = None
base_of_card (Some card) base = slice_get card.bases base

abbrev pub rom_bits : Option FittedCard → ℕ
rom_bits None = 0
rom_bits (Some card) = unwrap_or card.rom 0

abbrev pub window_bits : Setup → ℕ → ℕ → ℕ
window_bits setup dev base =
    if base == vga_base then vga_bits else
    if base == rom_base then rom_bits (card_at setup dev) else bits_of_base (base_of_card (card_at setup dev) base)

-- what an access to an area reaches: ROM and cards by the address modulo their size
abbrev pub target_at : Setup → Area → ℕ → Target
target_at setup (DramArea row) addr = Dram row
target_at setup (ShadowArea row) addr = Shadow row
target_at setup SmramArea addr = Smram
target_at setup RomArea addr = Rom (addr % length setup.rom)
target_at setup (CardArea dev base) addr = Card dev base (addr % 2 ^ window_bits setup dev base)
target_at setup AbortArea addr = Abort

-- ---- values

-- what a device's port reads
abbrev pub port_value : Setup → List Entry → Dev → ℕ → Width → ℕ
port_value setup before Confadd port width = config_address before
port_value setup before Reset port width = reset_control before
port_value setup before dev port width = device_value setup before dev port width

-- what a read gives that has this target, at this address or port. Nobody's reads give all ones
abbrev pub value_at : Setup → List Entry → Target → ℕ → Width → ℕ
value_at setup before (Dram row) addr width = wide (dram_byte setup before) addr width
value_at setup before (Shadow row) addr width = wide (dram_byte setup before) addr width
value_at setup before Smram addr width = wide (dram_byte setup before) addr width
value_at setup before (Rom off) addr width = wide (slice_index setup.rom) off width
value_at setup before (Card dev base off) addr width = wide (λ at. card_byte setup before dev base at) off width
value_at setup before (Config reg) port width =
    wide (λ off. byte_of setup before (record reg { off = off })) reg.off width
value_at setup before (Device dev) port width = port_value setup before dev port width
value_at setup before Abort addr width = largest_of width

-- ---- replies

-- an access that writes gives no value
abbrev pub bus_reply : Setup → List Entry → (writes : Bool) → Target → Option Denial → ℕ → Width → Reply
bus_reply setup before writes target denial place width =
    Bus (if writes then None else Some (value_at setup before target place width)) target denial

-- what answers a memory access, and what denied it
abbrev pub memory_target : Setup → List Entry → Access → Target
memory_target setup before access =
    target_at setup (area_of setup (byte_of setup before) access.addr access.kind access.smm) access.addr

abbrev pub memory_denial : Setup → List Entry → Access → Option Denial
memory_denial setup before access = denial_of setup (byte_of setup before) access.addr access.kind access.smm

unfoldable pub memory_answer : Setup → List Entry → Access → Reply
memory_answer setup before access =
    bus_reply setup before (is_write access.kind) (memory_target setup before access)
    (memory_denial setup before access) access.addr access.width

-- the reply to one part of a wide access is that to a memory access of that part
unfoldable pub part_answer : Setup → List Entry → Access → Part
part_answer setup before part = record {
  target = memory_target setup before part;
  denial = memory_denial setup before part;
}

-- the values of the parts joined, for a wide access that reads
unfoldable pub wide_value : Setup → List Entry → WideAccess → Option ℕ
wide_value setup before access =
    if is_write access.kind then None
    else Some
    (joined (λ part. value_at setup before (memory_target setup before part) part.addr part.width) (parts_of access))

pub record IsWideAnswer (setup : Setup) (before : List Entry) (access : WideAccess) (value : Option ℕ)
    (parts : Parts) : Type 0 where
  pub value_is : value ≡ wide_value setup before access
  pub each : parts_list parts ≡ map (part_answer setup before) (parts_of access)

unfoldable pub port_answer : Setup → List Entry → PortAccess → Reply
port_answer setup before access =
    let decoded =
    port_target_of setup (byte_of setup before) (config_address before) (is_some setup.disk) access.port access.width in
    bus_reply setup before access.write decoded.target decoded.denial access.port access.width

-- an event from outside the bus: a stimulus, or else a moment
abbrev pub outside_answer : Dev → Reply
outside_answer dev = Bus None (Device dev) None

abbrev pub answers_outside : Event → Dev
answers_outside event = option_map_or (λ said. (stimulus_form said.stimulus).answers) (applied_by event) Clock

-- a look gives the version and the span of the map of the registers as they stand
pub record IsLookAnswer (setup : Setup) (before : List Entry) (kind : Kind) (addr : ℕ) (smm : Bool)
    (look : Look) : Type 0 where
  pub version : look.version ≡ version_of setup before
  pub span : IsSpan setup (byte_of setup before) addr kind smm look.lo look.hi look.area

abbrev pub IsSeen : (Look → Type 0) → Reply → Type 0
IsSeen P (Saw look) = P look
IsSeen P _ = ⊥

abbrev pub IsInParts : (Option ℕ → Parts → Type 0) → Reply → Type 0
IsInParts P (InParts parts value) = P value parts
IsInParts P _ = ⊥

-- the reply to an event after a history. There is exactly one (`law_one_answer`)
abbrev pub IsAnswer : Setup → List Entry → Event → Reply → Type 0
IsAnswer setup before (Memory access) reply = reply ≡ memory_answer setup before access
IsAnswer setup before (Wide access) reply = IsInParts (IsWideAnswer setup before access) reply
IsAnswer setup before (Port access) reply = reply ≡ port_answer setup before access
IsAnswer setup before (LookAt kind addr smm) reply = IsSeen (IsLookAnswer setup before kind addr smm) reply
IsAnswer setup before Ack reply =
    reply ≡ Bus (Some (vector_of setup before)) (Device (acknowledged_by setup before)) None
IsAnswer setup before event reply = reply ≡ outside_answer (answers_outside event)
