-- What an entry asks of the devices.
use Rattle.std.specs.Prelude.{ℕ, ◌≡◌, ◌&&◌, Bool, true, false, List, Option, Some, None}
use Rattle.board_prelude.specs.{PortAccess, Dev, Pit, Elcr, Ata, Wires, Vector, Spurious, is_port_of, Event, Memory}
use Rattle.board_prelude.specs.{Wide, Port, Entry, Setup, is_hard_reset, device_reached, option_map_or, out_of}
use Rattle.board_prelude.specs.{is_interrupt, timer_of, clock_of, disk_of}
use Rattle.device_spec.specs.Clock.{interrupt_line}
use Rattle.board_base.specs.declared.target.Dev.TheVariants.{Confadd, Reset, Clock}
use Rattle.board_spec.specs.declared.event.Event.TheVariants.{Look}

-- an entry is an access that reached this device, and no hard reset
pub record ReachesDevice (history : List Entry) (entry : Entry) (dev : Dev) (access : PortAccess) : Type 0 where
  pub event : entry.event ≡ Port access
  pub device : device_reached entry.reply ≡ Some dev
  pub soft : is_hard_reset history entry.event ≡ false

-- an entry is some other event, and no hard reset
pub record Asks (history : List Entry) (entry : Entry) (event : Event) : Type 0 where
  pub event_is : entry.event ≡ event
  pub soft : is_hard_reset history entry.event ≡ false

-- the devices that accesses at ports reach here. The configuration address and reset control stand elsewhere
abbrev pub is_chip : Option Dev → Bool
is_chip None = false
is_chip (Some Confadd) = false
is_chip (Some Reset) = false
is_chip (Some Wires) = false
is_chip (Some (Vector chip)) = false
is_chip (Some (Spurious chip)) = false
is_chip _ = true

-- such a device, and an access that the table gives to it
abbrev pub is_chip_port : Dev → (port bytes : ℕ) → Bool
is_chip_port dev port bytes = is_chip (Some dev) && is_port_of dev port bytes

-- whether a read of a device, or a write to it, can move an interrupt line or change which are level triggered: any
-- access to the clock or the disk, and a write to the timer or to the edge and level control
abbrev pub moves_lines : Dev → (write : Bool) → Bool
moves_lines Clock write = true
moves_lines Ata write = true
moves_lines Pit write = write
moves_lines Elcr write = write
moves_lines _ write = false

-- an event asks nothing of the devices: an access to memory, a look, or an access at a port that reached none of them
abbrev pub PassesBy : Event → Option Dev → Type 0
PassesBy (Memory access) reached = Unit {0}
PassesBy (Wide access) reached = Unit {0}
PassesBy (Look kind addr smm) reached = Unit {0}
PassesBy (Port access) reached = is_chip reached ≡ false
PassesBy _ reached = ⊥

pub record Leaves (history : List Entry) (entry : Entry) : Type 0 where
  pub passes : PassesBy entry.event (device_reached entry.reply)
  pub soft : is_hard_reset history entry.event ≡ false

-- whether a write to a device changes which lines are level triggered
abbrev pub sets_triggers : Dev → Bool
sets_triggers Elcr = true
sets_triggers _ = false

-- the level of the line that a device drives after a history; where it drives none, 0
abbrev pub level_driven : Dev → Setup → List Entry → Bool
level_driven Pit setup history = out_of 0 (timer_of history)
level_driven Clock setup history = interrupt_line (clock_of history)
level_driven Ata setup history = option_map_or (λ disk. is_interrupt disk.drive) (disk_of setup history) false
level_driven _ setup history = false
