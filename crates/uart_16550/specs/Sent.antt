-- The bytes that a board with a serial port sends.
use Rattle.std.specs.Prelude.{ℕ, ◌≡◌, if◌then◌else◌, List, [], ◌∷◌, ◌++◌, Option, Some, None}
use Rattle.board_prelude.specs.{option_to_list, PortAccess, Event, Entry, Statement, control_written, control_after}
use Rattle.board_prelude.specs.{resets_hard, reset_control, is_hard_reset}
use Rattle.uart_16550.specs.declared.com1.Com1.{Com1}
use Rattle.uart_16550.specs.declared.com1.Happening.{Happening}
use Rattle.uart_16550.specs.declared.com1.Happening.TheVariants.{Comes, Happens}
use Rattle.uart_16550.specs.Uart.{Uart, received}
use Rattle.uart_16550.specs.Writes.{byte_sent}
use Rattle.uart_16550.specs.Com1.{com1_at_reset, uart_access, offset_of, com1_after, board_steps, change_steps}
use Rattle.uart_16550.specs.Serial.{GoesOnBy}

-- the port, and the reset control register of the board
pub record Sending : Type 0 where
  pub com1 : Com1
  pub control : ℕ

abbrev pub sending_at_reset : Sending
sending_at_reset = record { com1 = com1_at_reset; control = 0 }

abbrev pub sending_after : Sending → Happening → Sending
sending_after before (Comes byte) =
    record before { com1 = record before.com1 { uart = received before.com1.uart byte } }
sending_after before (Happens event) = record {
  com1 = com1_after (resets_hard before.control (control_written event)) event before.com1;
  control = control_after before.control (control_written event);
}

-- what the board does for it: the event, by this processor, where it is not for the port, and the changes of line 4
abbrev pub steps_for : (actor : ℕ) → Sending → Happening → List Statement
steps_for actor port (Comes byte) = change_steps port.com1 (sending_after port (Comes byte)).com1
steps_for actor port (Happens event) =
    board_steps actor (resets_hard port.control (control_written event)) event port.com1

abbrev pub sent_by_access : Option PortAccess → Uart → List ℕ
sent_by_access None uart = []
sent_by_access (Some access) uart =
    if access.write then option_to_list (byte_sent uart (offset_of access) access.value) else []

abbrev pub sent_by : Sending → Happening → List ℕ
sent_by before (Comes byte) = []
sent_by before (Happens event) = sent_by_access (uart_access event) before.com1.uart

-- the bytes that are sent, in order
abbrev pub bytes_sent : Sending → List Happening → List ℕ
bytes_sent before [] = []
bytes_sent before (happening ∷ later) = sent_by before happening ++ bytes_sent (sending_after before happening) later

-- the reset control register of the board follows the events alone: the steps that the port adds leave it
abbrev pub ControlFollows : Type 0
ControlFollows =
    (history after : List Entry) (actor : ℕ) (event : Event) (com1 : Com1) →
    GoesOnBy history (board_steps actor (is_hard_reset history event) event com1) after →
    reset_control after ≡ control_after (reset_control history) (control_written event)
