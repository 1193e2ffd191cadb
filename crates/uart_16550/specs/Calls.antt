-- What is done to a UART, call by call: no byte that it received is lost, and all are read in their order.
use Rattle.std.specs.Prelude.{ℕ, ◌≡◌, ◌==◌, Bool, true, false, not, if◌then◌else◌, List, [], ◌∷◌, ◌++◌, length}
use Rattle.board_prelude.specs.{Event, Port}
use Rattle.uart_16550.specs.declared.register.ReadRegister.{ReadRegister}
use Rattle.uart_16550.specs.declared.register.ReadRegister.TheVariants.{Rbr}
use Rattle.uart_16550.specs.declared.register.WriteRegister.{WriteRegister}
use Rattle.uart_16550.specs.declared.register.WriteRegister.TheVariants.{Thr, Fcr}
use Rattle.uart_16550.specs.Uart.{Uart, uart_at_reset, is_dlab, is_loopback, received}
use Rattle.uart_16550.specs.Reads.{register_read, byte_read, after_read}
use Rattle.uart_16550.specs.Writes.{register_written, is_emptying, after_write}
use Rattle.uart_16550.specs.Com1.{is_for_uart, offset_of}

-- a reset makes it new, a byte comes from outside, a register is read or written
pub data Call : Type 0 where
  Renews : Call
  Receives : (byte : ℕ) → Call
  Reads : (off : ℕ) → Call
  Writes : (off byte : ℕ) → Call

abbrev pub after_call : Uart → Call → Uart
after_call uart Renews = uart_at_reset
after_call uart (Receives byte) = received uart byte
after_call uart (Reads off) = after_read uart off
after_call uart (Writes off byte) = after_write uart off byte

-- the bytes that a call brings
abbrev pub brought : Call → List ℕ
brought (Receives byte) = byte ∷ []
brought call = []

-- a read of RBR that gave this byte took it from the queue, where there was one
abbrev pub front_taken : (queue : List ℕ) → ReadRegister → (byte : ℕ) → List ℕ
front_taken queue Rbr byte = if length queue == 0 then [] else byte ∷ []
front_taken queue _ byte = []

abbrev pub bytes_taken : Uart → (off byte : ℕ) → List ℕ
bytes_taken uart off byte = front_taken uart.queue (register_read (is_dlab uart) off) byte

abbrev pub taken : Uart → Call → List ℕ
taken uart (Reads off) = bytes_taken uart off (byte_read uart off)
taken uart call = []

-- a write keeps the queue, unless it loops a byte back, or empties it by FCR
abbrev pub is_kept : Uart → WriteRegister → (byte : ℕ) → Bool
is_kept uart Thr byte = not (is_loopback uart)
is_kept uart Fcr byte = not (is_emptying uart byte)
is_kept uart _ byte = true

abbrev pub keeps_queue : Uart → (off byte : ℕ) → Bool
keeps_queue uart off byte = is_kept uart (register_written (is_dlab uart) off) byte

abbrev pub is_keeping : Uart → Call → Bool
is_keeping uart Renews = false
is_keeping uart (Writes off byte) = keeps_queue uart off byte
is_keeping uart call = true

-- ---- a run of calls, the first call first

abbrev pub after_calls : Uart → List Call → Uart
after_calls uart [] = uart
after_calls uart (call ∷ later) = after_calls (after_call uart call) later

abbrev pub all_brought : List Call → List ℕ
all_brought [] = []
all_brought (call ∷ later) = brought call ++ all_brought later

abbrev pub all_taken : Uart → List Call → List ℕ
all_taken uart [] = []
all_taken uart (call ∷ later) = taken uart call ++ all_taken (after_call uart call) later

-- no byte was looped, and no queue was emptied by FCR or a reset
abbrev pub AllKeep : Uart → List Call → Type 0
AllKeep uart [] = Unit {0}
AllKeep uart (call ∷ later) = (is_keeping uart call ≡ true) × AllKeep (after_call uart call) later

-- then the bytes read from the queue and those still in it are the bytes received, in order
abbrev pub ReadInOrder : Type 0
ReadInOrder =
    (uart : Uart) (calls : List Call) → AllKeep uart calls →
    all_taken uart calls ++ (after_calls uart calls).queue ≡ uart.queue ++ all_brought calls

-- ---- the calls that an event makes of the UART of COM1

abbrev pub calls_of : (resets : Bool) → Event → List Call
calls_of resets (Port access) =
    if is_for_uart access
    then (if access.write then Writes (offset_of access) access.value else Reads (offset_of access)) ∷ []
    else (if resets then Renews ∷ [] else [])
calls_of resets _ = []
