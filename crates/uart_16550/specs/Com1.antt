-- The serial port COM1 of a board: which accesses are for it, what an event makes of it, and what the board does.
use Rattle.std.specs.Prelude.{ℕ, ◌-◌, ◌==◌, Bool, false, ◌&&◌, ◌||◌, if◌then◌else◌, List, [], ◌∷◌, Option, Some, None}
use Rattle.board_prelude.specs.{PortAccess, bytes_of, Event, Port, Line, Statement, is_within}
use Rattle.uart_16550.specs.declared.com1.Com1.{Com1}
use Rattle.uart_16550.specs.declared.com1.SerialReply.{SerialReply}
use Rattle.uart_16550.specs.declared.com1.UartReply.{UartReply}
use Rattle.uart_16550.specs.declared.com1.SerialReply.TheVariants.{Uart as FromUart}
use Rattle.uart_16550.specs.Uart.{Uart, uart_at_reset, is_interrupting}
use Rattle.uart_16550.specs.Reads.{byte_read, after_read}
use Rattle.uart_16550.specs.Writes.{differ, after_write, byte_sent}

-- the ports of the eight registers (PC16550D, 8.0) and the interrupt line, as a PC has them for COM1, and the number
-- under which the port itself moves that line
abbrev pub com1_ports : ℕ × ℕ
com1_ports = (0x3F8, 0x3FF)

abbrev pub com1_irq : ℕ
com1_irq = 4

abbrev pub com1_actor : ℕ
com1_actor = 8

abbrev pub com1_at_reset : Com1
com1_at_reset = record { uart = uart_at_reset; script_level = false }

-- the level of line 4: the or of the UART's line and of the level that the script set
abbrev pub level_of : Com1 → Bool
level_of com1 = is_interrupting com1.uart || com1.script_level

-- ---- accesses to the UART: those of one byte at its ports, whatever card decodes them

abbrev pub is_for_uart : PortAccess → Bool
is_for_uart access = is_within com1_ports.0 com1_ports.1 access.port && bytes_of access.width == 1

abbrev pub uart_access : Event → Option PortAccess
uart_access (Port access) = if is_for_uart access then Some access else None
uart_access _ = None

abbrev pub offset_of : PortAccess → ℕ
offset_of access = access.port - com1_ports.0

abbrev pub uart_after : PortAccess → Uart → Uart
uart_after access uart =
    if access.write then after_write uart (offset_of access) access.value else after_read uart (offset_of access)

-- the value of a read; the byte that a write sends
abbrev pub uart_reply : PortAccess → Uart → SerialReply
uart_reply access uart =
    if access.write then FromUart None (byte_sent uart (offset_of access) access.value)
    else FromUart (Some (byte_read uart (offset_of access))) None

-- a reply of the UART, as one of the board with the port
abbrev pub from_uart : UartReply → SerialReply
from_uart said = FromUart said.value said.sent

-- ---- an event: what it makes of the port, and the steps that the board does for it

-- the script sets the level of line 4, an access is for the UART, or a hard reset makes the UART new
abbrev pub com1_after : (resets : Bool) → Event → Com1 → Com1
com1_after resets (Line irq on) com1 = if irq == com1_irq then record com1 { script_level = on } else com1
com1_after resets (Port access) com1 =
    if is_for_uart access then record com1 { uart = uart_after access com1.uart } else
    if resets then record com1 { uart = uart_at_reset } else com1
com1_after resets _ com1 = com1

-- of line 4 the board hears the or of the level and the UART's line
abbrev pub board_event : Com1 → Event → Event
board_event com1 (Line irq on) = Line irq (if irq == com1_irq then is_interrupting com1.uart || on else on)
board_event com1 event = event

-- the port itself moves line 4, where that changes
abbrev pub line_steps : (old new : Bool) → List Statement
line_steps old new = if differ old new then record { actor = com1_actor; event = Line com1_irq new } ∷ [] else []

-- the step by which the board hears of line 4, once something changed the port
abbrev pub change_steps : (old new : Com1) → List Statement
change_steps old new = line_steps (level_of old) (level_of new)

-- all steps of the board for an event, in order
abbrev pub board_steps : (actor : ℕ) → (resets : Bool) → Event → Com1 → List Statement
board_steps actor resets (Port access) com1 =
    let change = change_steps com1 (com1_after resets (Port access) com1) in
    if is_for_uart access then change else record { actor = actor; event = Port access } ∷ change
board_steps actor resets event com1 = record { actor = actor; event = board_event com1 event } ∷ []
