-- The sixteen interrupt lines and the 8259A pair after a history, and what the devices' ports read.
use Rattle.std.specs.Prelude.{ℕ, zero, suc, ◌+◌, ◌-◌, ◌*◌, ◌%◌, ◌==◌, Bool, false, ◌&&◌, ◌||◌, if◌then◌else◌, List, []}
use Rattle.std.specs.Prelude.{◌∷◌, map, Option, Some}
use Rattle.std.specs.List.{list_any}
use Rattle.std.specs.Option.{option_map_or}
use Rattle.board_base.specs.declared.access.Width.{Width}
use Rattle.board_base.specs.declared.access.PortAccess.{PortAccess}
use Rattle.board_base.specs.declared.target.Dev.{Dev}
use Rattle.board_base.specs.declared.target.Dev.TheVariants.{Pic0, Pic1, Pit, Elcr, Ata, Vector, Spurious}
use Rattle.board_base.specs.declared.target.Dev.TheVariants.{Clock as ClockChip}
use Rattle.board_base.specs.Access.{largest_of}
use Rattle.device_spec.specs.Pair.{Pair, Answer, pair_at_reset, levels_at_power_on, pair_after_lines, pair_after_read}
use Rattle.device_spec.specs.Pair.{pair_after_write, pair_after_acknowledge, port_byte, answer_of}
use Rattle.device_spec.specs.Elcr.{trigger_byte}
use Rattle.device_spec.specs.Routing.{is_line_driven}
use Rattle.device_spec.specs.Pit.{PitState, out_of, port_read, pulses}
use Rattle.device_spec.specs.Clock.{interrupt_line, read_value}
use Rattle.device_spec.specs.Ata.State.{is_interrupt}
use Rattle.device_spec.specs.Ata.Steps.{read_of}
use Rattle.board_spec.specs.declared.event.Event.{Event}
use Rattle.board_spec.specs.declared.event.Event.TheVariants.{Port, Ack, Pulses}
use Rattle.board_spec.specs.declared.event.Reply.{Reply}
use Rattle.board_spec.specs.declared.event.Entry.{Entry}
use Rattle.board_spec.specs.Setup.{Setup}
use Rattle.board_spec.specs.InRange.{is_free_line}
use Rattle.board_spec.specs.RegisterNames.{pirq}
use Rattle.board_spec.specs.PortNames.{elcr_ports}
use Rattle.board_spec.specs.Registers.{is_hard_reset, byte_of}
use Rattle.board_spec.specs.Devices.{device_reached, wire_of, irq_of, triggers_of, SystemPort, timer_of}
use Rattle.board_spec.specs.Devices.{clock_of, disk_of, plain_of, plain_value, system_shown}

-- ---- the lines

-- INTA# of the card at device d goes to PIRQ (d - 1) mod 4, where 0 is A (this board's wiring)
abbrev pub pirq_of_card : ℕ → ℕ
pirq_of_card dev = (dev - 1) % 4

-- the devices that cards can be
abbrev pub card_devices : List ℕ
card_devices = 2 ∷ 3 ∷ 4 ∷ 5 ∷ 6 ∷ 7 ∷ 8 ∷ 9 ∷ []

-- a PIRQ is the or of its wires (PCI Local Bus 2.1, section 2.2.6: interrupt pins are shared)
abbrev pub pirq_level : List Entry → ℕ → Bool
pirq_level history k = list_any (λ dev. pirq_of_card dev == k && wire_of history dev) card_devices

-- PIRQA to PIRQD
abbrev pub pirqs : List ℕ
pirqs = 0 ∷ 1 ∷ 2 ∷ 3 ∷ []

-- the bytes of the four routes, and the levels of the four
abbrev pub routes_of : Setup → List Entry → List ℕ
routes_of setup history = map (λ k. byte_of setup history (pirq k)) pirqs

abbrev pub pirq_levels : List Entry → List Bool
pirq_levels history = map (pirq_level history) pirqs

-- what drives a line besides the routing: 0 the timer, 8 the clock, 14 the disk, and the free lines `irq`
-- (82371SB, Interrupt Controller: IRQ0, IRQ8# and IRQ14)
abbrev pub own_level : Setup → List Entry → PitState → ℕ → Bool
own_level setup history timer line =
    if line == 0 then out_of 0 timer else
    if line == 8 then interrupt_line (clock_of history) else
    if line == 14 then option_map_or (λ disk. is_interrupt disk.drive) (disk_of setup history) false else
    is_free_line line && irq_of history line

-- the level of a line after a history, where the timer stands so
abbrev pub level_with : Setup → List Entry → PitState → ℕ → Bool
level_with setup history timer line =
    own_level setup history timer line || is_line_driven (routes_of setup history) (pirq_levels history) line

abbrev pub all_lines : List ℕ
all_lines = 0 ∷ 1 ∷ 2 ∷ 3 ∷ 4 ∷ 5 ∷ 6 ∷ 7 ∷ 8 ∷ 9 ∷ 10 ∷ 11 ∷ 12 ∷ 13 ∷ 14 ∷ 15 ∷ []

unfoldable pub levels_with : Setup → List Entry → PitState → List Bool
levels_with setup history timer = map (level_with setup history timer) all_lines

-- the sixteen lines
abbrev pub levels_of : Setup → List Entry → List Bool
levels_of setup history = levels_with setup history (timer_of history)

-- ---- the 8259A pair

-- the bits of ELCR as one number
abbrev pub elcr_of : List Entry → ℕ
elcr_of history = (triggers_of history).low + 0x100 * (triggers_of history).high

-- the pair after the first k of an event's pulses: after each single one the lines reach it as they then stand
unfoldable pub pair_pulsed : Setup → List Entry → ℕ → Pair → Pair
pair_pulsed setup before zero pair = pair
pair_pulsed setup before (suc k) pair =
    pair_after_lines (pair_pulsed setup before k pair)
    (levels_with setup before (pulses (suc k) (timer_of before))) (elcr_of before)

abbrev pub pair_read_or_written : PortAccess → Pair → Pair
pair_read_or_written access pair =
    if access.write then pair_after_write pair access.port access.value else pair_after_read pair access.port

abbrev pub pair_accessed : Option Dev → PortAccess → Pair → Pair
pair_accessed (Some Pic0) access pair = pair_read_or_written access pair
pair_accessed (Some Pic1) access pair = pair_read_or_written access pair
pair_accessed _ access pair = pair

-- what an event does to the pair before the lines reach it
abbrev pub pair_after : Event → Reply → Pair → Pair
pair_after (Port access) reply pair = pair_accessed (device_reached reply) access pair
pair_after Ack reply pair = pair_after_acknowledge pair
pair_after _ reply pair = pair

-- a hard reset puts every other device in its reset state, and then the pair with the levels of that moment
abbrev pub pair_reset_or_after : Setup → Entry → List Entry → Pair → Pair
pair_reset_or_after setup entry before pair =
    if is_hard_reset before entry.event then pair_at_reset (levels_of setup (entry ∷ before))
    else pair_after entry.event entry.reply pair

-- after each event other than pulses, and after each single pulse, the lines as they then stand reach the pair
abbrev pub pair_stepped : Setup → Entry → List Entry → Event → Pair → Pair
pair_stepped setup entry before (Pulses count) pair = pair_pulsed setup before count pair
pair_stepped setup entry before _ pair =
    pair_after_lines (pair_reset_or_after setup entry before pair)
    (levels_of setup (entry ∷ before)) (elcr_of (entry ∷ before))

unfoldable pub pair_of : Setup → List Entry → Pair
pair_of setup [] = pair_at_reset levels_at_power_on
pair_of setup (entry ∷ before) = pair_stepped setup entry before entry.event (pair_of setup before)

-- ---- what the devices give

abbrev pub system_value : SystemPort → PitState → ℕ
system_value port timer = system_shown port (out_of 2 timer)

-- what a read of a device's port gives after a history
unfoldable pub device_value : Setup → List Entry → Dev → ℕ → Width → ℕ
device_value setup history Pic0 port width = port_byte (pair_of setup history) port
device_value setup history Pic1 port width = port_byte (pair_of setup history) port
device_value setup history Pit port width = (port_read port (timer_of history)).0
device_value setup history ClockChip port width = read_value (clock_of history) port
device_value setup history Elcr port width = trigger_byte (triggers_of history) (port == elcr_ports.1)
device_value setup history Ata port width =
    option_map_or (λ disk. read_of port width disk) (disk_of setup history) (largest_of width)
device_value setup history dev port width = plain_value dev (plain_of history) (out_of 2 (timer_of history)) width

-- the answer to an interrupt acknowledge
abbrev pub vector_of : Setup → List Entry → ℕ
vector_of setup history = (answer_of (pair_of setup history)).vector

abbrev pub who_answered : Answer → Dev
who_answered answer = if answer.is_spurious then Spurious answer.chip else Vector answer.chip

abbrev pub acknowledged_by : Setup → List Entry → Dev
acknowledged_by setup history = who_answered (answer_of (pair_of setup history))
