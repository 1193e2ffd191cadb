-- A board image: what a board is fitted with, and then who asked what of it, in order. The replies follow from these.
-- Numbers have their low byte first.
use Rattle.std.specs.Prelude.{ℕ, ◌≡◌, ◌≤◌, ◌<◌, ◌+◌, ◌^◌, ◌++◌, Bool, List, [], ◌∷◌, length, map, flat_map, All, is_some}
use Rattle.std.specs.Prelude.{unwrap_or, codes, true, false, if◌then◌else◌, IfSome}
use Rattle.board_prelude.specs.{w8, w16, w32, w64, to_le_bytes, Kind, Fetch, Read, Write, PortAccess, WideAccess}
use Rattle.board_prelude.specs.{Moment, bytes_of, Event, Memory, Wide, Port, Ack, Time, Applied, applied_by}
use Rattle.board_prelude.specs.{stimulus_form, option_map_or, Statement, Base, MemoryBase, IoBase, OutsideBase}
use Rattle.board_prelude.specs.{FittedCard, Setup, IsSetup, IsInRange, IsScriptSector, most_statements}
use Rattle.board_base.specs.declared.access.Access.{Access}
pub use Rattle.byte_fields.specs.Fields.{flag_byte}
use Rattle.board_spec.specs.declared.event.Event.TheVariants.{Look as LookAt}
use Rattle.board_image.specs.declared.tag.Tag.{Tag}
use Rattle.board_image.specs.declared.tag.Tag.TheVariants as tags

-- what an image says: a setup, and who asked what, the oldest first
pub record Saved : Type 0 where
  pub setup : Setup
  pub steps : List Statement

-- ---- what the board is fitted with

abbrev pub magic : List ℕ
magic = codes "BOARDIMG"

abbrev pub image_version : ℕ
image_version = 1

-- the bit that says of a base that it is for I/O ports, and the one that says that the board keeps no bytes of it
abbrev pub io_base : ℕ
io_base = 0x80

abbrev pub outside_base : ℕ
outside_base = 0x40

abbrev pub base_byte : Base → ℕ
base_byte (MemoryBase bits) = bits
base_byte (IoBase bits) = io_base + bits
base_byte (OutsideBase bits) = outside_base + bits

-- whether the board keeps the bytes behind a base. Those of a script keep them all: one that does not is of a running
-- board alone
abbrev pub keeps_bytes : Base → Bool
keeps_bytes (OutsideBase bits) = false
keeps_bytes base = true

abbrev pub IsScriptCard : FittedCard → Type 0
IsScriptCard card = All (λ base. keeps_bytes base ≡ true) card.bases

-- 0 stands where a card has no expansion ROM
unfoldable pub card_bytes : FittedCard → List ℕ
card_bytes card =
    card.dev ∷ flag_byte card.vga ∷ unwrap_or card.rom 0 ∷ length card.bases ∷ map base_byte card.bases

abbrev pub disk_bytes : Setup → List ℕ
disk_bytes setup = unwrap_or setup.disk []

unfoldable pub size_bytes : Setup → (steps : ℕ) → List ℕ
size_bytes setup steps =
    to_le_bytes w32 (length setup.rom) ++ (to_le_bytes w32 (length (disk_bytes setup)) ++ to_le_bytes w32 steps)

-- what stands before the cards. The byte after the disk's flag is reserved
unfoldable pub head_bytes : Setup → (steps : ℕ) → List ℕ
head_bytes setup steps =
    magic ++ (to_le_bytes w16 image_version
    ++ (setup.mib ∷ length setup.cards ∷ flag_byte (is_some setup.disk) ∷ 0 ∷ size_bytes setup steps))

-- ---- who asked what

-- the number of each kind of event: that of a stimulus is in the table of stimuli
abbrev pub tag_byte : Tag → ℕ
tag_byte tags.Memory = 1
tag_byte tags.Port = 2
tag_byte tags.Look = 3
tag_byte tags.Ack = 4
tag_byte tags.Time = 6
tag_byte tags.Wide = 10
tag_byte (tags.Stimulus one) = (stimulus_form one).code

abbrev pub tag_of_event : Event → Tag
tag_of_event (Memory access) = tags.Memory
tag_of_event (Port access) = tags.Port
tag_of_event (LookAt kind addr smm) = tags.Look
tag_of_event Ack = tags.Ack
tag_of_event (Wide access) = tags.Wide
tag_of_event event = option_map_or (λ said. tags.Stimulus said.stimulus) (applied_by event) tags.Time

abbrev pub kind_byte : Kind → ℕ
kind_byte Fetch = 0
kind_byte Read = 1
kind_byte Write = 2

unfoldable pub memory_bytes : Access → List ℕ
memory_bytes access =
    kind_byte access.kind ∷ flag_byte access.smm ∷ bytes_of access.width
    ∷ (to_le_bytes w32 access.addr ++ to_le_bytes w32 access.value)

unfoldable pub wide_bytes : WideAccess → List ℕ
wide_bytes access =
    kind_byte access.kind ∷ flag_byte access.smm ∷ access.bytes
    ∷ (to_le_bytes w32 access.addr ++ to_le_bytes w64 access.value)

unfoldable pub port_bytes : PortAccess → List ℕ
port_bytes access =
    flag_byte access.write ∷ bytes_of access.width
    ∷ (to_le_bytes w16 access.port ++ to_le_bytes w32 access.value)

unfoldable pub look_bytes : (kind : Kind) (addr : ℕ) (smm : Bool) → List ℕ
look_bytes kind addr smm = kind_byte kind ∷ flag_byte smm ∷ to_le_bytes w32 addr

unfoldable pub moment_bytes : Moment → List ℕ
moment_bytes moment =
    to_le_bytes w16 moment.year ++ moment.month ∷ moment.day ∷ moment.hour ∷ moment.minute ∷ moment.second ∷ []

-- of a stimulus its number, in one byte where a level follows it and else in four, and the level
abbrev pub applied_bytes : Applied → List ℕ
applied_bytes said =
    if (stimulus_form said.stimulus).has_level then to_le_bytes w8 said.number ++ flag_byte said.on ∷ []
    else to_le_bytes w32 said.number

-- the fields of an event
unfoldable pub field_bytes : Event → List ℕ
field_bytes (Memory access) = memory_bytes access
field_bytes (Port access) = port_bytes access
field_bytes (LookAt kind addr smm) = look_bytes kind addr smm
field_bytes (Time moment) = moment_bytes moment
field_bytes (Wide access) = wide_bytes access
field_bytes event = option_map_or applied_bytes (applied_by event) []

abbrev pub event_bytes : Event → List ℕ
event_bytes event = tag_byte (tag_of_event event) ∷ field_bytes event

abbrev pub step_bytes : Statement → List ℕ
step_bytes step = step.actor ∷ event_bytes step.event

-- ---- the whole

unfoldable pub image_bytes : Setup → List Statement → List ℕ
image_bytes setup steps =
    head_bytes setup (length steps)
    ++ (flat_map card_bytes setup.cards ++ (setup.rom ++ (disk_bytes setup ++ flat_map step_bytes steps)))

-- an address fits 32 bits, a port 16, a number that a level follows 8
abbrev pub FitsByteWhere : (has_level : Bool) → ℕ → Type 0
FitsByteWhere true number = number < 2 ^ 8
FitsByteWhere false number = Unit {0}

abbrev pub FitsField : Event → Type 0
FitsField (Memory access) = access.addr < 2 ^ 32
FitsField (Port access) = access.port < 2 ^ 16
FitsField (LookAt kind addr smm) = addr < 2 ^ 32
FitsField event =
    IfSome (applied_by event) (λ said. FitsByteWhere (stimulus_form said.stimulus).has_level said.number)

-- a step that an image can say: of one of eight processors, and one that the board can do
pub record IsImageStep (setup : Setup) (step : Statement) : Type 0 where
  pub actor : step.actor ≤ 7
  pub fits : FitsField step.event
  pub event : IsInRange setup step.event
  pub sector : IsScriptSector step.event

-- what an image can say: a board that can be opened, with 64 MiB at most and cards as a script has, and steps that it
-- can do
pub record IsImage (setup : Setup) (steps : List Statement) : Type 0 where
  pub fitted : IsSetup setup
  pub few_mib : setup.mib ≤ 64
  pub cards : All IsScriptCard setup.cards
  pub count : length steps ≤ most_statements
  pub each : All (IsImageStep setup) steps
