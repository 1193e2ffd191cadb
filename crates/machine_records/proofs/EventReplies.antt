-- The reply of a chipset with a serial port, by whom the event is for, and the history that goes on from a step.
use Rattle.std.proofs.Common.{◌≡◌, ℕ, Bool, List, Option, Some, None, refl, ◌∙◌}
use Rattle.board_prelude.proofs.{Bytes, PortAccess, Event, Memory, Wide, Port, Line, Reply, Entry}
use Rattle.board_prelude.specs.{Statement}
use Rattle.board_spec.specs.declared.event.Event.TheVariants.{Look as LookAt}
use Rattle.board_chipset.specs.Chipset.{Running, IsLeftBy as IsChipsetLeftBy}
use Rattle.board_chipset.specs.Versions.{IsAnswerModulo}
use Rattle.uart_16550.specs.declared.com1.SerialReply.{SerialReply}
use Rattle.uart_16550.specs.declared.com1.SerialReply.TheVariants.{Board as OfBoard}
use Rattle.uart_16550.specs.Com1.{uart_reply, board_event}
use Rattle.uart_16550.specs.Serial.{Serial, IsAfter}
use Rattle.board_chipset.specs.Steps.{IsForDevices}
use Rattle.board_chipset.specs.Held.{IsByDevice}
use Rattle.machine_records.specs.Steps.{IsHeldBy, IsHeldEvent, IsHistoryOf, IsEventReply}

pub reply_is : (serial : Serial Running) (history : List Entry) (event : Event) (access : Option PortAccess)
    (told : SerialReply) → IsHistoryOf serial history →
    ((at : PortAccess) → access ≡ Some at → told ≡ uart_reply at serial.com1.uart) →
    (access ≡ None → (reply : Reply) × (told ≡ OfBoard reply) ×
    ((before : List Entry) → IsHistoryOf serial before →
    IsAnswerModulo serial.board.setup before (board_event serial.com1 event) reply)) →
    IsEventReply serial history event access told
reply_is serial history event (Some access) told left uart board = uart access refl
reply_is serial history event None told left uart board =
    let is = board refl in rw (is.1) (is.2 history left)

-- what happens outside the bus is answered by its device, whatever registers the chipset holds
pub held_outside : (chipset : Running) (bytes : Bytes) (event : Event) (reply : Reply) → IsForDevices event →
    IsByDevice event reply → IsHeldBy chipset bytes event reply
held_outside chipset bytes (Memory access) reply devices by = absurd devices
held_outside chipset bytes (Wide access) reply devices by = absurd devices
held_outside chipset bytes (Port access) reply devices by = absurd devices
held_outside chipset bytes (LookAt kind addr smm) reply devices by = absurd devices
held_outside chipset bytes (Line irq on) reply devices by = tt
held_outside chipset bytes _ reply devices by = by

-- a level of a line is answered by the chipset
pub held_line : (serial : Serial Running) (bytes : Bytes) (irq : ℕ) (on : Bool) (told : SerialReply) (reply : Reply) →
    told ≡ OfBoard reply → IsHeldEvent serial bytes (Line irq on) None told
held_line serial bytes irq on told reply is = rw is tt

abbrev pub IsAfterThese : Serial Running → List Entry → List Statement → Type 0
IsAfterThese serial history steps = IsAfter IsAnswerModulo (λ (chipset : Running). chipset.setup) IsChipsetLeftBy
    serial history steps

-- the same under another name of the steps
abbrev pub after_as : (serial : Serial Running) (history : List Entry) (steps others : List Statement) →
    steps ≡ others → IsAfterThese serial history steps → IsAfterThese serial history others
after_as serial history steps others is gone = record {
  after = gone.after;
  left_at = gone.left_at;
  goes_on = record { more = gone.goes_on.more; grows = gone.goes_on.grows; same = gone.goes_on.same ∙ is };
  answered = gone.answered;
}
