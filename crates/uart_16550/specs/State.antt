-- The state of a UART as bytes: the registers that keep what is written, what it interrupts for beside the queue, and
-- the receiver; and that of the serial port, which has the level that events gave its line before it.
use Rattle.std.specs.Prelude.{ℕ, ◌<◌, ◌≤◌, ◌++◌, List, [], ◌∷◌, length}
use Rattle.std.specs.Int.{w8}
use Rattle.byte_fields.specs.Fields.{Reading, gives, ◌>>=◌, within, flag_byte, flag_field, plain}
use Rattle.uart_16550.specs.declared.com1.Com1.{Com1}
use Rattle.uart_16550.specs.declared.state.Registers.{Registers}
use Rattle.uart_16550.specs.declared.state.Causes.{Causes}
use Rattle.uart_16550.specs.declared.state.Receiver.{Receiver}
use Rattle.uart_16550.specs.Uart.{Uart, size_with}

-- ---- IER, LCR, MCR, SCR, DLL and DLM

abbrev pub registers_in : Uart → Registers
registers_in uart = record {
  ier = uart.ier;
  lcr = uart.lcr;
  mcr = uart.mcr;
  scr = uart.scr;
  dll = uart.dll;
  dlm = uart.dlm;
}

abbrev pub registers_bytes : Registers → List ℕ
registers_bytes r = r.ier ∷ r.lcr ∷ r.mcr ∷ r.scr ∷ r.dll ∷ r.dlm ∷ []

unfoldable pub registers_fields : Reading Registers
registers_fields = do
  ier ← within w8 0 15
  lcr ← within w8 0 255
  mcr ← within w8 0 31
  scr ← within w8 0 255
  dll ← within w8 0 255
  dlm ← within w8 0 255
  gives (record { ier = ier; lcr = lcr; mcr = mcr; scr = scr; dll = dll; dlm = dlm })

-- IER has four bits and MCR five
pub record AreRegisters (r : Registers) : Type 0 where
  pub ier : r.ier < 16
  pub lcr : r.lcr < 256
  pub mcr : r.mcr < 32
  pub scr : r.scr < 256
  pub dll : r.dll < 256
  pub dlm : r.dlm < 256

-- ---- whether a byte was lost, and whether THR became empty; DCTS, DDSR, TERI and DDCD

abbrev pub causes_of : Uart → Causes
causes_of uart = record {
  overrun = uart.overrun;
  emptied = uart.emptied;
  dcts = uart.changes.dcts;
  ddsr = uart.changes.ddsr;
  teri = uart.changes.teri;
  ddcd = uart.changes.ddcd;
}

abbrev pub causes_bytes : Causes → List ℕ
causes_bytes causes =
    flag_byte causes.overrun ∷ flag_byte causes.emptied ∷ flag_byte causes.dcts ∷ flag_byte causes.ddsr
    ∷ flag_byte causes.teri ∷ flag_byte causes.ddcd ∷ []

unfoldable pub causes_fields : Reading Causes
causes_fields = do
  overrun ← flag_field
  emptied ← flag_field
  dcts ← flag_field
  ddsr ← flag_field
  teri ← flag_field
  ddcd ← flag_field
  gives (record {
    overrun = overrun;
    emptied = emptied;
    dcts = dcts;
    ddsr = ddsr;
    teri = teri;
    ddcd = ddcd;
  })

-- ---- whether the FIFOs are on, how many bytes were received and not read, and these, the next to be read first

abbrev pub receiver_of : Uart → Receiver
receiver_of uart = record { fifos = uart.fifos; queue = uart.queue }

abbrev pub receiver_bytes : Receiver → List ℕ
receiver_bytes receiver = flag_byte receiver.fifos ∷ length receiver.queue ∷ receiver.queue

unfoldable pub receiver_fields : Reading Receiver
receiver_fields = do
  fifos ← flag_field
  count ← within w8 0 (size_with fifos)
  queue ← plain count
  gives (record { fifos = fifos; queue = queue })

-- 16 bytes with FIFOs, and one without
abbrev pub IsReceiver : Receiver → Type 0
IsReceiver receiver = length receiver.queue ≤ size_with receiver.fifos

-- ---- the UART

pub record IsUart (uart : Uart) : Type 0 where
  pub registers : AreRegisters (registers_in uart)
  pub receiver : IsReceiver (receiver_of uart)

abbrev pub uart_bytes : Uart → List ℕ
uart_bytes uart =
    registers_bytes (registers_in uart) ++ (causes_bytes (causes_of uart) ++ receiver_bytes (receiver_of uart))

unfoldable pub uart_fields : Reading Uart
uart_fields = do
  registers ← registers_fields
  causes ← causes_fields
  receiver ← receiver_fields
  gives (record {
    ier = registers.ier;
    lcr = registers.lcr;
    mcr = registers.mcr;
    scr = registers.scr;
    dll = registers.dll;
    dlm = registers.dlm;
    fifos = receiver.fifos;
    queue = receiver.queue;
    overrun = causes.overrun;
    emptied = causes.emptied;
    changes = record { dcts = causes.dcts; ddsr = causes.ddsr; teri = causes.teri; ddcd = causes.ddcd };
  })

-- ---- the serial port: the level that events gave its line last does not follow from the UART

abbrev pub IsCom1 : Com1 → Type 0
IsCom1 com1 = IsUart com1.uart

abbrev pub com1_bytes : Com1 → List ℕ
com1_bytes com1 = flag_byte com1.script_level ∷ uart_bytes com1.uart

unfoldable pub com1_fields : Reading Com1
com1_fields = do
  script_level ← flag_field
  uart ← uart_fields
  gives (record { uart = uart; script_level = script_level })
