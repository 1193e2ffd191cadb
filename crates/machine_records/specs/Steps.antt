-- A step that was asked by a record, and told by one.
use Rattle.std.specs.Prelude.{ℕ, ◌≡◌, ◌%◌, true, List, Option, Some, None, IsSomeAnd, is_some}
use Rattle.board_prelude.specs.{Bytes, PortAccess, Event, Line, Reply, Entry, Setup, IsInRange, version_of, interrupt}
use Rattle.board_prelude.specs.{reset_control}
use Rattle.board_devices.specs.Outside.{is_interrupting}
use Rattle.board_chipset.specs.declared.reset_control.ResetKind.{ResetKind}
use Rattle.board_chipset.specs.declared.reset_control.ResetKind.TheVariants.{None as NoReset}
use Rattle.board_chipset.specs.Chipset.{Running, IsLeftBy as IsChipsetLeftBy}
use Rattle.board_chipset.specs.Resets.{reset_of}
use Rattle.board_chipset.specs.Versions.{version_count, IsAnswerModulo}
use Rattle.board_chipset.specs.Held.{HoldsRegisters, IsHeldReply}
use Rattle.uart_16550.specs.declared.com1.Com1.{Com1}
use Rattle.uart_16550.specs.declared.com1.Happening.{Happening}
use Rattle.uart_16550.specs.declared.com1.Happening.TheVariants.{Comes, Happens}
use Rattle.uart_16550.specs.declared.com1.SerialReply.{SerialReply}
use Rattle.uart_16550.specs.declared.com1.SerialReply.TheVariants.{Board as OfBoard, Uart as OfUart}
use Rattle.uart_16550.specs.Uart.{has_room}
use Rattle.uart_16550.specs.Com1.{level_of, uart_access, uart_reply, board_event}
use Rattle.uart_16550.specs.Serial.{Serial, IsLeftBy, IsAfter}
use Rattle.uart_16550.specs.Sent.{Sending, sending_after, steps_for}
use Rattle.machine_records.specs.declared.reply.ReplyRecord.{ReplyRecord}
use Rattle.machine_records.specs.Replies.{AfterStep, serial_said}
use Rattle.machine_records.specs.Statuses.{IsEventRefusal, IsOutcome}

-- this history left the chipset and its serial port
abbrev pub IsHistoryOf : Serial Running → List Entry → Type 0
IsHistoryOf serial history = IsLeftBy IsChipsetLeftBy serial history

-- a byte needs room in the queue of COM1, and an event is in range
abbrev pub CanHappen : Serial Running → Happening → Type 0
CanHappen serial (Comes byte) = has_room serial.com1.uart ≡ true
CanHappen serial (Happens event) = IsInRange serial.board.setup event

-- the serial port, with the reset control register of the chipset
abbrev pub port_of : Serial Running → List Entry → Sending
port_of serial history = record { com1 = serial.com1; control = reset_control history }

-- ---- the reply

-- the UART answers its own accesses, and the chipset what it hears of all else
abbrev pub IsEventReply : Serial Running → List Entry → Event → Option PortAccess → SerialReply → Type 0
IsEventReply serial history event (Some access) reply = reply ≡ uart_reply access serial.com1.uart
IsEventReply serial history event None (OfBoard reply) =
    IsAnswerModulo serial.board.setup history (board_event serial.com1 event) reply
IsEventReply serial history event None (OfUart value sent) = ⊥

-- a byte that comes is neither read nor sent
abbrev pub IsReply : Serial Running → List Entry → Happening → SerialReply → Type 0
IsReply serial history (Comes byte) reply = reply ≡ OfUart None None
IsReply serial history (Happens event) reply = IsEventReply serial history event (uart_access event) reply

abbrev pub reset_by : List Entry → Happening → ResetKind
reset_by history (Comes byte) = NoReset
reset_by history (Happens event) = reset_of history event

-- what stands after a step: the version of the map and INT after the history, the reset that the step made, line 4,
-- and whether COM1 has room for a byte
abbrev pub after_step : Setup → (after : List Entry) → ResetKind → Com1 → AfterStep
after_step setup after reset com1 = record {
  version = version_of setup after % version_count;
  interrupt = is_interrupting setup after;
  reset = reset;
  irq4 = level_of com1;
  serial_room = has_room com1.uart;
}

-- ---- the step

-- of a history that left the chipset: this is the reply to what was asked; the port is as that leaves it, and the
-- history goes on by the steps that the port makes of it, those of processor 0; and the record is that of the reply
pub record AnswersAsked (old new : Serial Running) (asked : Happening) (reply : SerialReply) (said : ReplyRecord)
    (history : List Entry) : Type 0 where
  pub answer : IsReply old history asked reply
  pub com1 : new.com1 ≡ (sending_after (port_of old history) asked).com1
  pub goes_on :
      IsAfter IsAnswerModulo (λ chipset. chipset.setup) IsChipsetLeftBy new history
      (steps_for 0 (port_of old history) asked)
  pub told : said ≡ serial_said reply (after_step old.board.setup goes_on.after (reset_by history asked) new.com1)

-- ---- whatever history left the chipset, or none

-- what answered, and what denied it, by the register bytes that the chipset held. A level of a line is answered as
-- histories say
abbrev pub IsHeldBy : Running → Bytes → Event → Reply → Type 0
IsHeldBy chipset bytes (Line irq on) reply = Unit {0}
IsHeldBy chipset bytes event reply = IsHeldReply chipset bytes event reply

abbrev pub IsHeldEvent : Serial Running → Bytes → Event → Option PortAccess → SerialReply → Type 0
IsHeldEvent serial bytes event (Some access) reply = reply ≡ uart_reply access serial.com1.uart
IsHeldEvent serial bytes event None (OfBoard reply) = IsHeldBy serial.board bytes event reply
IsHeldEvent serial bytes event None (OfUart value sent) = ⊥

abbrev pub IsHeldAnswer : Serial Running → Bytes → Happening → SerialReply → Type 0
IsHeldAnswer serial bytes (Comes byte) reply = reply ≡ OfUart None None
IsHeldAnswer serial bytes (Happens event) reply = IsHeldEvent serial bytes event (uart_access event) reply

-- what stands after a step that made this reset
abbrev pub held_after : Serial Running → ResetKind → AfterStep
held_after serial reset = record {
  version = serial.board.state.registers.map.version;
  interrupt = is_some (interrupt serial.board.state.devices.pair.master);
  reset = reset;
  irq4 = level_of serial.com1;
  serial_room = has_room serial.com1.uart;
}

-- the record is that of the reply, and of what stands after the step
pub record IsToldOf (new : Serial Running) (reply : SerialReply) (said : ReplyRecord) : Type 0 where
  pub reset : ResetKind
  pub told : said ≡ serial_said reply (held_after new reset)

-- what was asked can happen, and its reply is told, by the registers that the chipset holds and whatever history left it
pub record IsAskedStep (old new : Serial Running) (said : ReplyRecord) (asked : Happening) : Type 0 where
  pub can : CanHappen old asked
  pub setup : new.board.setup ≡ old.board.setup
  pub reply : SerialReply
  pub held : (bytes : Bytes) → HoldsRegisters old.board bytes → IsHeldAnswer old bytes asked reply
  pub told : IsToldOf new reply said
  pub answered : (history : List Entry) → IsHistoryOf old history → AnswersAsked old new asked reply said history

-- how what is asked ends: by a step whose reply is told, or by a refusal
abbrev pub IsStepOutcome : (status : ℕ) → Option Happening → (old new : Serial Running) →
    (before after : ReplyRecord) → Type 0
IsStepOutcome status asked old new before after =
    IsOutcome status (IsSomeAnd asked (IsAskedStep old new after)) (IsEventRefusal old asked status)
    ((new ≡ old) × (after ≡ before))
