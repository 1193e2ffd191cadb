-- What a write to a 16550 leaves, and the byte that it sends.
use Rattle.std.specs.Prelude.{ℕ, ◌%◌, ◌==◌, Bool, true, false, not, ◌&&◌, ◌||◌, if◌then◌else◌, [], Option, Some, None}
use Rattle.board_spec.specs.Bits.{is_bit}
use Rattle.uart_16550.specs.declared.modem.ModemLines.{ModemLines}
use Rattle.uart_16550.specs.declared.modem.ModemChanges.{ModemChanges}
use Rattle.uart_16550.specs.declared.register.WriteRegister.{WriteRegister}
use Rattle.uart_16550.specs.declared.register.WriteRegister.TheVariants.{Thr, Dll, Ier, Dlm, Fcr, Lcr, Mcr, Lsr, Msr}
use Rattle.uart_16550.specs.declared.register.WriteRegister.TheVariants.{Scr}
use Rattle.uart_16550.specs.Names.{etbei, fifo_enable, receiver_reset}
use Rattle.uart_16550.specs.Uart.{Uart, is_dlab, is_loopback, is_full, received, lines_of}

-- the register that a write reaches. With DLAB at 1 the divisor latch stands at 0 and 1 (PC16550D, 8.0 and 8.1)
abbrev pub register_written : Bool → (off : ℕ) → WriteRegister
register_written dlab off =
    if off == 0 then (if dlab then Dll else Thr) else
    if off == 1 then (if dlab then Dlm else Ier) else
    if off == 2 then Fcr else
    if off == 3 then Lcr else
    if off == 4 then Mcr else
    if off == 5 then Lsr else
    if off == 6 then Msr else Scr

-- ---- THR: a byte is sent at once, so THR is empty again. In loopback it comes back (PC16550D, 8.8), and is lost in a
-- full queue (8.4, OE)

abbrev pub looped : Uart → ℕ → Uart
looped uart byte = if is_full uart then record uart { overrun = true } else received uart byte

abbrev pub thr_written : Uart → ℕ → Uart
thr_written uart byte =
    let empty : Uart = record uart { emptied = true } in if is_loopback uart then looped empty byte else empty

-- ---- IER, bits 3 to 0 (PC16550D, 8.7). Where ETBEI rises, the empty THR interrupts again

abbrev pub ier_written : Uart → ℕ → Uart
ier_written uart byte =
    record uart { ier = byte % 16; emptied = uart.emptied || is_bit byte etbei && not (is_bit uart.ier etbei) }

-- ---- FCR: bit 0 turns the FIFOs on or off. Its change, or bit 1, empties the queue (PC16550D, 8.5)

abbrev pub differ : Bool → Bool → Bool
differ true other = not other
differ false other = other

abbrev pub is_emptying : Uart → ℕ → Bool
is_emptying uart byte = is_bit byte receiver_reset || differ (is_bit byte fifo_enable) uart.fifos

abbrev pub fcr_written : Uart → ℕ → Uart
fcr_written uart byte =
    record uart {
      fifos = is_bit byte fifo_enable;
      queue = if is_emptying uart byte then [] else uart.queue;
    }

-- ---- MCR, bits 4 to 0 (PC16550D, 8.8): the lines of the modem may change with it (8.9)

abbrev pub changes_after : ModemChanges → (old new : ModemLines) → ModemChanges
changes_after changes old new = record {
  dcts = changes.dcts || differ old.cts new.cts;
  ddsr = changes.ddsr || differ old.dsr new.dsr;
  teri = changes.teri || old.ri && not new.ri;
  ddcd = changes.ddcd || differ old.dcd new.dcd;
}

abbrev pub mcr_written : Uart → ℕ → Uart
mcr_written uart byte =
    record uart {
      mcr = byte % 32;
      changes = changes_after uart.changes (lines_of uart.mcr) (lines_of (byte % 32));
    }

-- ---- LSR and MSR are read only (PC16550D, 8.4: a write is for testing alone)

unfoldable pub with_value : Uart → WriteRegister → (byte : ℕ) → Uart
with_value uart Thr byte = thr_written uart byte
with_value uart Dll byte = record uart { dll = byte }
with_value uart Ier byte = ier_written uart byte
with_value uart Dlm byte = record uart { dlm = byte }
with_value uart Fcr byte = fcr_written uart byte
with_value uart Lcr byte = record uart { lcr = byte }
with_value uart Mcr byte = mcr_written uart byte
with_value uart Scr byte = record uart { scr = byte }
with_value uart _ byte = uart

-- a write at an offset, 0 to 7
abbrev pub after_write : Uart → (off byte : ℕ) → Uart
after_write uart off byte = with_value uart (register_written (is_dlab uart) off) byte

-- the byte that a write sends
abbrev pub byte_sent : Uart → (off byte : ℕ) → Option ℕ
byte_sent uart off byte = if off == 0 && not (is_dlab uart) && not (is_loopback uart) then Some byte else None
