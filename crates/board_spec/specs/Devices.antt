-- The devices after a history, each by itself, from its power-on state. An access acts on the device that its
-- target names, by the machine of that device; a hard reset puts each in its reset state.
use Rattle.std.specs.Prelude.{ℕ, ◌+◌, ◌%◌, ◌==◌, Bool, false, not, if◌then◌else◌, List, [], ◌∷◌, Option, Some, None}
use Rattle.std.specs.Prelude.{unwrap_or, option_map}
use Rattle.board_base.specs.declared.access.Width.{Width}
use Rattle.board_base.specs.Access.{largest_of}
use Rattle.board_base.specs.declared.access.PortAccess.{PortAccess}
use Rattle.board_base.specs.declared.target.Dev.{Dev}
use Rattle.board_base.specs.declared.target.Dev.TheVariants.{Pit, System, Keyboard, Elcr, Ata, Clock as ClockChip}
use Rattle.board_base.specs.declared.target.Target.{Target}
use Rattle.board_base.specs.declared.target.Target.TheVariants.{Device}
use Rattle.device_spec.specs.Elcr.{Triggers, triggers_at_reset, triggers_after_write}
use Rattle.device_spec.specs.Pit.{PitState, reset as timer_at_reset, port_read, port_write, set_gate2, pulses}
use Rattle.device_spec.specs.Clock.{Clock, after_read, after_write, after_moment, after_reset as clock_after_reset}
use Rattle.device_spec.specs.Clock.{power_on as clock_at_power_on}
use Rattle.device_spec.specs.Told.{civil_time}
use Rattle.device_spec.specs.Ata.State.{Disk, power_on as disk_at_power_on}
use Rattle.device_spec.specs.Ata.Steps.{after_bad, after_read as disk_after_read, after_write as disk_after_write}
use Rattle.device_spec.specs.Ata.Steps.{after_reset as disk_after_reset}
use Rattle.board_spec.specs.declared.event.Event.{Event}
use Rattle.board_spec.specs.declared.event.Event.TheVariants.{Port, Pulses, Time, Wire, Line, BadSector}
use Rattle.board_spec.specs.declared.event.Reply.{Reply}
use Rattle.board_spec.specs.declared.event.Reply.TheVariants.{Bus}
use Rattle.board_spec.specs.declared.event.Entry.{Entry}
use Rattle.board_spec.specs.Setup.{Setup}
use Rattle.board_spec.specs.Bits.{is_bit}
use Rattle.board_spec.specs.PortNames.{elcr_ports}
use Rattle.board_spec.specs.Registers.{is_hard_reset}

-- ---- what an access reached

abbrev pub device_in : Target → Option Dev
device_in (Device dev) = Some dev
device_in _ = None

-- the device whose port an access reached
abbrev pub device_reached : Reply → Option Dev
device_reached (Bus value target denial) = device_in target
device_reached _ = None

-- ---- levels from outside, which a hard reset keeps

-- the level that an event gives INTA# of the card at a device number
abbrev pub wire_set : ℕ → Event → Option Bool
wire_set dev (Wire at on) = if at == dev then Some on else None
wire_set dev _ = None

-- the level that INTA# of a card was given last, and 0 before any
unfoldable pub wire_of : List Entry → ℕ → Bool
wire_of [] dev = false
wire_of (entry ∷ before) dev = unwrap_or (wire_set dev entry.event) (wire_of before dev)

-- the level that an event gives an interrupt line
abbrev pub line_set : ℕ → Event → Option Bool
line_set line (Line at on) = if at == line then Some on else None
line_set line _ = None

-- the level that an interrupt line was given last, and 0 before any
unfoldable pub irq_of : List Entry → ℕ → Bool
irq_of [] line = false
irq_of (entry ∷ before) line = unwrap_or (line_set line entry.event) (irq_of before line)

-- ---- ELCR

abbrev pub triggers_accessed : Option Dev → PortAccess → Triggers → Triggers
triggers_accessed (Some Elcr) access triggers =
    if access.write then triggers_after_write triggers (access.port == elcr_ports.1) access.value else triggers
triggers_accessed _ access triggers = triggers

abbrev pub triggers_after : Event → Reply → Triggers → Triggers
triggers_after (Port access) reply triggers = triggers_accessed (device_reached reply) access triggers
triggers_after _ reply triggers = triggers

unfoldable pub triggers_of : List Entry → Triggers
triggers_of [] = triggers_at_reset
triggers_of (entry ∷ before) =
    if is_hard_reset before entry.event then triggers_at_reset
    else triggers_after entry.event entry.reply (triggers_of before)

-- ---- port 61h

-- bits 1 and 0 as written (82371SB, NMISC: speaker data and timer counter 2 enable), and the bit that flips after each
-- read
pub record SystemPort : Type 0 where
  pub kept : ℕ
  pub flip : Bool

abbrev pub system_at_reset : SystemPort
system_at_reset = record { kept = 0; flip = false }

abbrev pub system_accessed : Option Dev → PortAccess → SystemPort → SystemPort
system_accessed (Some System) access port =
    if access.write then record port { kept = access.value % 4 } else record port { flip = not port.flip }
system_accessed _ access port = port

-- ---- the plain ports: the registers of the board itself, which drive no line and change at accesses alone

pub record PlainPorts : Type 0 where
  pub system : SystemPort

abbrev pub plain_at_reset : PlainPorts
plain_at_reset = record { system = system_at_reset }

abbrev pub plain_accessed : Option Dev → PortAccess → PlainPorts → PlainPorts
plain_accessed reached access plain = record { system = system_accessed reached access plain.system }

abbrev pub plain_after : Event → Reply → PlainPorts → PlainPorts
plain_after (Port access) reply plain = plain_accessed (device_reached reply) access plain
plain_after _ reply plain = plain

unfoldable pub plain_of : List Entry → PlainPorts
plain_of [] = plain_at_reset
plain_of (entry ∷ before) =
    if is_hard_reset before entry.event then plain_at_reset
    else plain_after entry.event entry.reply (plain_of before)

abbrev pub system_of : List Entry → SystemPort
system_of history = (plain_of history).system

-- port 61h: bits 1 and 0 as written, bit 4 flips, bit 5 is OUT of counter 2 (82371SB, NMISC; that bit 4 flips with each
-- read: profile)
abbrev pub system_shown : SystemPort → (out : Bool) → ℕ
system_shown port out = port.kept + (if port.flip then 0x10 else 0) + (if out then 0x20 else 0)

-- what a read of a plain port gives, where OUT of counter 2 has this level. The socket of the keyboard controller is
-- empty, and a device that has no such port gives all ones
abbrev pub plain_value : Dev → PlainPorts → (out : Bool) → Width → ℕ
plain_value System plain out width = system_shown plain.system out
plain_value Keyboard plain out width = 0xFF
plain_value _ plain out width = largest_of width

-- ---- the 8254, whose gate 2 is bit 0 of port 61h

abbrev pub timer_accessed : Option Dev → PortAccess → PitState → PitState
timer_accessed (Some Pit) access timer =
    if access.write then port_write access.port access.value timer else (port_read access.port timer).1
timer_accessed (Some System) access timer =
    if access.write then set_gate2 (is_bit access.value 0) timer else timer
timer_accessed _ access timer = timer

abbrev pub timer_after : Event → Reply → PitState → PitState
timer_after (Port access) reply timer = timer_accessed (device_reached reply) access timer
timer_after (Pulses count) reply timer = pulses count timer
timer_after _ reply timer = timer

unfoldable pub timer_of : List Entry → PitState
timer_of [] = timer_at_reset
timer_of (entry ∷ before) =
    if is_hard_reset before entry.event then timer_at_reset
    else timer_after entry.event entry.reply (timer_of before)

-- ---- the clock

abbrev pub clock_accessed : Option Dev → PortAccess → Clock → Clock
clock_accessed (Some ClockChip) access clock =
    if access.write then after_write clock access.port access.value else after_read clock access.port
clock_accessed _ access clock = clock

abbrev pub clock_after : Event → Reply → Clock → Clock
clock_after (Port access) reply clock = clock_accessed (device_reached reply) access clock
clock_after (Time moment) reply clock = after_moment clock (civil_time moment)
clock_after _ reply clock = clock

unfoldable pub clock_of : List Entry → Clock
clock_of [] = clock_at_power_on
clock_of (entry ∷ before) =
    if is_hard_reset before entry.event then clock_after_reset (clock_of before)
    else clock_after entry.event entry.reply (clock_of before)

-- ---- the disk with these bytes

abbrev pub disk_accessed : Option Dev → PortAccess → Disk → Disk
disk_accessed (Some Ata) access disk =
    if access.write then disk_after_write access.port access.width access.value disk
    else disk_after_read access.port access.width disk
disk_accessed _ access disk = disk

abbrev pub disk_after : Event → Reply → Disk → Disk
disk_after (Port access) reply disk = disk_accessed (device_reached reply) access disk
disk_after (BadSector sector) reply disk = after_bad sector disk
disk_after _ reply disk = disk

unfoldable pub disk_with : List ℕ → List Entry → Disk
disk_with bytes [] = disk_at_power_on bytes
disk_with bytes (entry ∷ before) =
    if is_hard_reset before entry.event then disk_after_reset (disk_with bytes before)
    else disk_after entry.event entry.reply (disk_with bytes before)

-- the disk, where one is fitted
abbrev pub disk_of : Setup → List Entry → Option Disk
disk_of setup history = option_map (λ bytes. disk_with bytes history) setup.disk
