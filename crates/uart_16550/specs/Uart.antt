-- A 16550 as a machine: its state, the interrupt that it asks for, and the register at each offset.
-- The line rate is not modelled: a byte is sent as soon as it is written. Sections are those of National's PC16550D
-- data sheet.
use Rattle.std.specs.Prelude.{ℕ, ◌^◌, ◌<◌, ◌≤◌, ◌==◌, Bool, true, false, not, ◌&&◌, ◌||◌, nat_le, if◌then◌else◌, List}
use Rattle.std.specs.Prelude.{[], ◌∷◌, ◌++◌, length, Option, is_some, find}
use Rattle.board_spec.specs.Bits.{is_bit}
use Rattle.uart_16550.specs.declared.interrupt.Interrupt.{Interrupt}
use Rattle.uart_16550.specs.declared.interrupt.Interrupt.TheVariants.{LineStatus, DataAvailable, TransmitterEmpty}
use Rattle.uart_16550.specs.declared.interrupt.Interrupt.TheVariants.{ModemStatus}
use Rattle.uart_16550.specs.declared.modem.ModemLines.{ModemLines}
use Rattle.uart_16550.specs.declared.modem.ModemChanges.{ModemChanges}
use Rattle.uart_16550.specs.Names.{erbfi, etbei, elsi, edssi, dlab, dtr, rts, out1, out2, loop_enable}

-- the registers that keep what is written; whether the FIFOs are on; the bytes received, the next to be read first;
-- whether a byte was lost since LSR was read; whether THR became empty and IIR was not read with that cause since; and
-- what the lines of the modem did since MSR was read
pub record Uart : Type 0 where
  pub ier : ℕ
  pub lcr : ℕ
  pub mcr : ℕ
  pub scr : ℕ
  pub dll : ℕ
  pub dlm : ℕ
  pub fifos : Bool
  pub queue : List ℕ
  pub overrun : Bool
  pub emptied : Bool
  pub changes : ModemChanges

abbrev pub no_changes : ModemChanges
no_changes = record { dcts = false; ddsr = false; teri = false; ddcd = false }

abbrev pub uart_at_reset : Uart
uart_at_reset = record {
  ier = 0;
  lcr = 0;
  mcr = 0;
  scr = 0;
  dll = 0;
  dlm = 0;
  fifos = false;
  queue = [];
  overrun = false;
  emptied = false;
  changes = no_changes;
}

abbrev pub is_dlab : Uart → Bool
is_dlab uart = is_bit uart.lcr dlab

abbrev pub is_loopback : Uart → Bool
is_loopback uart = is_bit uart.mcr loop_enable

-- ---- the queue: 16 bytes with FIFOs, and one without (PC16550D, 8.5)

abbrev pub size_with : (fifos : Bool) → ℕ
size_with fifos = if fifos then 16 else 1

abbrev pub queue_size : Uart → ℕ
queue_size uart = size_with uart.fifos

abbrev pub is_full : Uart → Bool
is_full uart = nat_le (queue_size uart) (length uart.queue)

-- a byte can come from outside: in loopback SIN is disconnected (PC16550D, 8.8)
abbrev pub has_room : Uart → Bool
has_room uart = not (is_full uart) && not (is_loopback uart)

abbrev pub received : Uart → ℕ → Uart
received uart byte = record uart { queue = uart.queue ++ byte ∷ [] }

-- what holds of every UART: IER keeps bits 3 to 0 (PC16550D, 8.7), MCR bits 4 to 0 (8.8), and the queue no more than it
-- has room for
pub record AreKept (ier mcr : ℕ) (fifos : Bool) (queue : List ℕ) : Type 0 where
  pub enabled : ier < 16
  pub control : mcr < 32
  pub few : length queue ≤ size_with fifos

-- ---- the lines of the modem: in loopback the port's own outputs (PC16550D, 8.8), else a modem that is there and does
-- not ring (this board's choice)

abbrev pub lines_of : (mcr : ℕ) → ModemLines
lines_of mcr =
    if is_bit mcr loop_enable
    then record { cts = is_bit mcr rts; dsr = is_bit mcr dtr; ri = is_bit mcr out1; dcd = is_bit mcr out2 }
    else record { cts = true; dsr = true; ri = false; dcd = true }

-- ---- the interrupt

abbrev pub is_any_change : ModemChanges → Bool
is_any_change changes = changes.dcts || changes.ddsr || changes.teri || changes.ddcd

-- what each interrupt is for (PC16550D, 8.6, Interrupt Control Functions)
abbrev pub has_condition : Uart → Interrupt → Bool
has_condition uart LineStatus = uart.overrun
has_condition uart DataAvailable = not (length uart.queue == 0)
has_condition uart TransmitterEmpty = uart.emptied
has_condition uart ModemStatus = is_any_change uart.changes

-- the bit of IER that enables it (PC16550D, 8.7)
abbrev pub enable_of : Interrupt → ℕ
enable_of LineStatus = elsi
enable_of DataAvailable = erbfi
enable_of TransmitterEmpty = etbei
enable_of ModemStatus = edssi

abbrev pub is_raised : Uart → Interrupt → Bool
is_raised uart interrupt = is_bit uart.ier (enable_of interrupt) && has_condition uart interrupt

-- the pending interrupt is the first that is raised, in the data sheet's order (PC16550D, 8.6)
abbrev pub pending : Uart → Option Interrupt
pending uart = find (is_raised uart) (LineStatus ∷ DataAvailable ∷ TransmitterEmpty ∷ ModemStatus ∷ [])

-- the level of the interrupt line, which OUT2 lets out (PC16550D, 8.8; that OUT2 gates it: the PC's wiring)
abbrev pub is_interrupting : Uart → Bool
is_interrupting uart = is_some (pending uart) && is_bit uart.mcr out2

-- a bit of a register
abbrev pub flag : Bool → ℕ → ℕ
flag on k = if on then 2 ^ k else 0
