-- Where an access would land, in numbers.
use Rattle.std.specs.Prelude.{ℕ, suc, zero, ◌≡◌, List, Option, Some, None, option_map}
use Rattle.board_prelude.specs.{Bytes, PortAccess, Event, Memory, Port, Part, Entry, IsInRange, timer_of}
use Rattle.pit_8254.specs.NextRise.{IsNextRise}
use Rattle.board_chipset.specs.Chipset.{Running, IsLeftBy}
use Rattle.board_chipset.specs.Places.{place_of}
use Rattle.board_chipset.specs.Held.{HoldsRegisters, held_place}
use Rattle.uart_16550.specs.declared.com1.Happening.{Happening}
use Rattle.uart_16550.specs.declared.com1.Happening.TheVariants.{Comes, Happens}
use Rattle.uart_16550.specs.Com1.{uart_access}
use Rattle.machine_records.specs.declared.reply.PartRecord.{PartRecord}
use Rattle.machine_records.specs.Replies.{of_part, uart_part}
use Rattle.machine_records.specs.Statuses.{no_event, no_cycle}

-- an access of one bus cycle, to memory or to a port
abbrev pub IsCycle : Event → Type 0
IsCycle (Memory access) = Unit {0}
IsCycle (Port access) = Unit {0}
IsCycle _ = ⊥

-- the UART answers its own accesses, before any card, and the chipset the others
abbrev pub placed_by : Option PortAccess → Option Part → Option PartRecord
placed_by (Some access) part = Some uart_part
placed_by None part = option_map of_part part

-- an event that can be asked, and the part that would answer it by the register bytes that the chipset holds, some and
-- each history's that left it so
pub record IsEventPlaced (chipset : Running) (said : PartRecord) (asked : Event) : Type 0 where
  pub in_range : IsInRange chipset.setup asked
  pub some : (bytes : Bytes) × HoldsRegisters chipset bytes
  pub held : (bytes : Bytes) → HoldsRegisters chipset bytes →
      Some said ≡ placed_by (uart_access asked) (held_place chipset bytes asked)
  pub part : (history : List Entry) → IsLeftBy chipset history →
      Some said ≡ placed_by (uart_access asked) (place_of chipset.setup history asked)

-- the access can be made, and what would answer it and deny it is told
abbrev pub IsAskedPlace : Running → PartRecord → Happening → Type 0
IsAskedPlace chipset said (Comes byte) = ⊥
IsAskedPlace chipset said (Happens asked) = IsEventPlaced chipset said asked

-- why none is told: the record asks nothing, or no access of one bus cycle in range
abbrev pub IsNotPlaced : Running → Option Happening → (status : ℕ) → Type 0
IsNotPlaced chipset None status = status ≡ no_event
IsNotPlaced chipset (Some (Comes byte)) status = status ≡ no_cycle
IsNotPlaced chipset (Some (Happens asked)) status =
    (status ≡ no_cycle) × ¬ (IsInRange chipset.setup asked × IsCycle asked)

-- a count of pulses, of which 0 stands for none
abbrev pub rise_said : ℕ → Option ℕ
rise_said zero = None
rise_said (suc pulses) = Some (suc pulses)

-- line 0 next rises at this pulse of the timer's clock; 0 where it rises at none that comes
pub record IsRise (chipset : Running) (pulses : ℕ) : Type 0 where
  pub held : IsNextRise chipset.state.devices.timer (rise_said pulses)
  pub left : (history : List Entry) → IsLeftBy chipset history → IsNextRise (timer_of history) (rise_said pulses)
