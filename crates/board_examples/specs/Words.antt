-- Words of the worked examples: what is asked of a board, and what it replies, line by line.
use Rattle.std.specs.Prelude.{ℕ, ◌+◌, List, [], ◌∷◌, length, Bool, true, false, Some, None}
use Rattle.board_prelude.specs.{Width, One, Kind, Fetch, Read, Write, Dev, Pit, Wires, Ata, Moment, Area, Target}
use Rattle.board_prelude.specs.{Config, Device, Abort, Denial, Register, Event, Memory, Wide, Port, Ack, Pulses, Time}
use Rattle.board_prelude.specs.{Wire, Line, BadSector, Part, Parts, Reply, Bus, Saw, Entry}
use Rattle.board_base.specs.declared.access.Width.TheVariants.{Four}
use Rattle.board_base.specs.declared.target.Dev.TheVariants.{Confadd as AddressPort, Clock}
use Rattle.board_spec.specs.declared.event.Event.TheVariants.{Look as LookAt}
use Rattle.board_spec.specs.declared.event.Reply.TheVariants.{Parts as InParts}

-- one line of an example: what is asked, and the reply
pub record Said : Type 0 where
  pub asked : Event
  pub replied : Reply

-- a history with further lines of processor 0. The lines stand in reading order, a history has the newest first
abbrev pub continued : List Entry → List Said → List Entry
continued before [] = before
continued before (said ∷ later) =
    continued (record { actor = 0; seq = length before + 1; event = said.asked; reply = said.replied } ∷ before) later

-- the history of the lines
abbrev pub from_reset : List Said → List Entry
from_reset lines = continued [] lines

-- ---- what is asked

abbrev pub memory_access : Kind → Bool → Width → ℕ → ℕ → Reply → Said
memory_access kind smm width addr value reply =
    record {
      asked = Memory (record { kind = kind; addr = addr; width = width; smm = smm; value = value });
      replied = reply;
    }

abbrev pub reads : Width → ℕ → Reply → Said
reads width addr reply = memory_access Read false width addr 0 reply

abbrev pub fetches : Width → ℕ → Reply → Said
fetches width addr reply = memory_access Fetch false width addr 0 reply

abbrev pub writes : Width → ℕ → ℕ → Reply → Said
writes width addr value reply = memory_access Write false width addr value reply

abbrev pub reads_in_smm : Width → ℕ → Reply → Said
reads_in_smm width addr reply = memory_access Read true width addr 0 reply

abbrev pub fetches_in_smm : Width → ℕ → Reply → Said
fetches_in_smm width addr reply = memory_access Fetch true width addr 0 reply

abbrev pub writes_in_smm : Width → ℕ → ℕ → Reply → Said
writes_in_smm width addr value reply = memory_access Write true width addr value reply

abbrev pub inputs : Width → ℕ → Reply → Said
inputs width port reply =
    record { asked = Port (record { write = false; port = port; width = width; value = 0 }); replied = reply }

abbrev pub outputs : Width → ℕ → ℕ → Reply → Said
outputs width port value reply =
    record { asked = Port (record { write = true; port = port; width = width; value = value }); replied = reply }

abbrev pub looks : Kind → ℕ → Reply → Said
looks kind addr reply = record { asked = LookAt kind addr false; replied = reply }

-- ---- replies

-- a read's value and who gave it
abbrev pub gives : ℕ → Target → Reply
gives value target = Bus (Some value) target None

-- a write and who took it
abbrev pub goes_to : Target → Reply
goes_to target = Bus None target None

-- a write that is lost, and what denied it
abbrev pub lost_in : Target → Denial → Reply
lost_in target denial = Bus None target (Some denial)

-- a read or a write that nobody answers, and what denied it
abbrev pub floats : ℕ → Denial → Reply
floats value denial = Bus (Some value) Abort (Some denial)

abbrev pub lost : Denial → Reply
lost denial = lost_in Abort denial

abbrev pub register : ℕ → ℕ → ℕ → Target
register dev fun off = Config (record { dev = dev; fun = fun; off = off })

abbrev pub host : ℕ → Target
host off = register 0 0 off

abbrev pub denied_by : ℕ → ℕ → ℕ → Denial
denied_by dev fun off = Register (record { dev = dev; fun = fun; off = off })

abbrev pub denied_by_host : ℕ → Denial
denied_by_host off = denied_by 0 0 off

-- the configuration address port is written
abbrev pub selects : ℕ → Said
selects address = outputs Four 0xCF8 address (goes_to (Device AddressPort))

-- the version of the map, and the interval round the address with its area
abbrev pub sees : ℕ → ℕ → ℕ → Area → Reply
sees version lo hi area = Saw (record { version = version; lo = lo; hi = hi; area = area })

-- ---- wide accesses

abbrev pub wide_access : Kind → Bool → (bytes addr value : ℕ) → Reply → Said
wide_access kind smm bytes addr value reply =
    record {
      asked = Wide (record { kind = kind; addr = addr; bytes = bytes; smm = smm; value = value });
      replied = reply;
    }

abbrev pub reads_wide : (bytes addr : ℕ) → Reply → Said
reads_wide bytes addr reply = wide_access Read false bytes addr 0 reply

abbrev pub writes_wide : (bytes addr value : ℕ) → Reply → Said
writes_wide bytes addr value reply = wide_access Write false bytes addr value reply

-- what answers a part, and what denied it
abbrev pub part : Target → Part
part target = record { target = target; denial = None }

abbrev pub denied_part : Target → Denial → Part
denied_part target denial = record { target = target; denial = Some denial }

abbrev pub gives_parts : ℕ → Parts → Reply
gives_parts value parts = InParts parts (Some value)

abbrev pub goes_in_parts : Parts → Reply
goes_in_parts parts = InParts parts None

-- ---- devices

-- a byte is written to a device's port, or read from it
abbrev pub puts : Dev → (port byte : ℕ) → Said
puts dev port byte = outputs One port byte (goes_to (Device dev))

abbrev pub gets : Dev → (port byte : ℕ) → Said
gets dev port byte = inputs One port (gives byte (Device dev))

-- an acknowledge, its vector and who gave it
abbrev pub acknowledges : ℕ → Dev → Said
acknowledges vector dev = record { asked = Ack; replied = gives vector (Device dev) }

abbrev pub pulses : ℕ → Said
pulses count = record { asked = Pulses count; replied = goes_to (Device Pit) }

abbrev pub wire : ℕ → Bool → Said
wire dev on = record { asked = Wire dev on; replied = goes_to (Device Wires) }

abbrev pub line : ℕ → Bool → Said
line irq on = record { asked = Line irq on; replied = goes_to (Device Wires) }

abbrev pub tells : Moment → Said
tells moment = record { asked = Time moment; replied = goes_to (Device Clock) }

abbrev pub spoils : ℕ → Said
spoils sector = record { asked = BadSector sector; replied = goes_to (Device Ata) }
