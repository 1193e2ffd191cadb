-- What a read of a 16550 gives, and what it leaves.
use Rattle.std.specs.Prelude.{ℕ, ◌+◌, ◌==◌, Bool, true, false, not, if◌then◌else◌, length, Option, Some, None}
use Rattle.uart_16550.specs.declared.interrupt.Interrupt.{Interrupt}
use Rattle.uart_16550.specs.declared.interrupt.Interrupt.TheVariants.{LineStatus, DataAvailable, TransmitterEmpty}
use Rattle.uart_16550.specs.declared.interrupt.Interrupt.TheVariants.{ModemStatus}
use Rattle.uart_16550.specs.declared.modem.ModemLines.{ModemLines}
use Rattle.uart_16550.specs.declared.modem.ModemChanges.{ModemChanges}
use Rattle.uart_16550.specs.declared.register.ReadRegister.{ReadRegister}
use Rattle.uart_16550.specs.declared.register.ReadRegister.TheVariants.{Rbr, Dll, Ier, Dlm, Iir, Lcr, Mcr, Lsr, Msr}
use Rattle.uart_16550.specs.declared.register.ReadRegister.TheVariants.{Scr}
use Rattle.uart_16550.specs.declared.register.UartRegisters.{UartRegisters}
use Rattle.uart_16550.specs.Queue.{front_of, rest_of}
use Rattle.uart_16550.specs.Names.{dr, oe, thre, temt, dcts, ddsr, teri, ddcd, cts, dsr, ri, dcd}
use Rattle.uart_16550.specs.Uart.{Uart, no_changes, is_dlab, lines_of, pending, flag}

-- the register that a read reaches. With DLAB at 1 the divisor latch stands at 0 and 1 (PC16550D, 8.0 and 8.1)
abbrev pub register_read : Bool → (off : ℕ) → ReadRegister
register_read dlab off =
    if off == 0 then (if dlab then Dll else Rbr) else
    if off == 1 then (if dlab then Dlm else Ier) else
    if off == 2 then Iir else
    if off == 3 then Lcr else
    if off == 4 then Mcr else
    if off == 5 then Lsr else
    if off == 6 then Msr else Scr

-- bits 3 to 0 of IIR: the interrupt that is pending, and 1 where none is (PC16550D, 8.6)
abbrev pub identity_of : Option Interrupt → ℕ
identity_of (Some LineStatus) = 6
identity_of (Some DataAvailable) = 4
identity_of (Some TransmitterEmpty) = 2
identity_of (Some ModemStatus) = 0
identity_of None = 1

-- bits 7 and 6 say that the FIFOs are on (PC16550D, 8.6)
abbrev pub iir_of : Uart → ℕ
iir_of uart = identity_of (pending uart) + (if uart.fifos then 0xC0 else 0)

-- the transmitter is always empty (PC16550D, 8.4: bits 5 and 6)
abbrev pub lsr_of : Uart → ℕ
lsr_of uart = flag (not (length uart.queue == 0)) dr + flag uart.overrun oe + flag true thre + flag true temt

-- the changes in bits 3 to 0 and the lines in bits 7 to 4 (PC16550D, 8.9)
abbrev pub msr_with : ModemLines → ModemChanges → ℕ
msr_with lines changes =
    flag changes.dcts dcts + flag changes.ddsr ddsr + flag changes.teri teri + flag changes.ddcd ddcd
    + flag lines.cts cts + flag lines.dsr dsr + flag lines.ri ri + flag lines.dcd dcd

abbrev pub msr_of : Uart → ℕ
msr_of uart = msr_with (lines_of uart.mcr) uart.changes

unfoldable pub value_of : Uart → ReadRegister → ℕ
value_of uart Rbr = front_of uart.queue
value_of uart Dll = uart.dll
value_of uart Ier = uart.ier
value_of uart Dlm = uart.dlm
value_of uart Iir = iir_of uart
value_of uart Lcr = uart.lcr
value_of uart Mcr = uart.mcr
value_of uart Lsr = lsr_of uart
value_of uart Msr = msr_of uart
value_of uart Scr = uart.scr

-- a read of IIR that gives the empty THR clears it (PC16550D, 8.6, Interrupt Reset Control)
abbrev pub after_identity : Option Interrupt → Uart → Uart
after_identity (Some TransmitterEmpty) uart = record uart { emptied = false }
after_identity told uart = uart

-- a read of LSR clears the overrun (PC16550D, 8.4), and one of MSR the changes (8.9)
unfoldable pub after_value : Uart → ReadRegister → Uart
after_value uart Rbr = record uart { queue = rest_of uart.queue }
after_value uart Iir = after_identity (pending uart) uart
after_value uart Lsr = record uart { overrun = false }
after_value uart Msr = record uart { changes = no_changes }
after_value uart _ = uart

-- a read at an offset, 0 to 7
abbrev pub byte_read : Uart → (off : ℕ) → ℕ
byte_read uart off = value_of uart (register_read (is_dlab uart) off)

abbrev pub after_read : Uart → (off : ℕ) → Uart
after_read uart off = after_value uart (register_read (is_dlab uart) off)

-- what reads would give, each of this state: the registers by their names, of the divisor latch both bytes
abbrev pub registers_of : Uart → UartRegisters
registers_of uart = record {
  ier = value_of uart Ier;
  iir = value_of uart Iir;
  lcr = value_of uart Lcr;
  mcr = value_of uart Mcr;
  lsr = value_of uart Lsr;
  msr = value_of uart Msr;
  scr = value_of uart Scr;
  dll = value_of uart Dll;
  dlm = value_of uart Dlm;
}
