-- A board with a serial port loses no byte that it received, and all are read in their order.
use Rattle.std.specs.Prelude.{ℕ, ◌≡◌, List, [], ◌∷◌, ◌++◌}
use Rattle.board_spec.specs.Registers.{control_written, resets_hard}
use Rattle.uart_16550.specs.declared.com1.Happening.{Happening}
use Rattle.uart_16550.specs.declared.com1.Happening.TheVariants.{Comes, Happens}
use Rattle.uart_16550.specs.Calls.{Call, Receives, calls_of, AllKeep, all_taken}
use Rattle.uart_16550.specs.Sent.{Sending, sending_after}

-- the calls of the UART that are made for what happens
abbrev pub calls_for : Sending → Happening → List Call
calls_for before (Comes byte) = Receives byte ∷ []
calls_for before (Happens event) = calls_of (resets_hard before.control (control_written event)) event

abbrev pub all_calls : Sending → List Happening → List Call
all_calls before [] = []
all_calls before (happening ∷ later) = calls_for before happening ++ all_calls (sending_after before happening) later

abbrev pub after_all : Sending → List Happening → Sending
after_all before [] = before
after_all before (happening ∷ later) = after_all (sending_after before happening) later

-- the bytes that come from outside
abbrev pub bytes_come : List Happening → List ℕ
bytes_come [] = []
bytes_come (Comes byte ∷ later) = byte ∷ bytes_come later
bytes_come (Happens event ∷ later) = bytes_come later

-- while no byte was looped and no queue was emptied by FCR or a hard reset, the bytes read from the queue and those
-- still in it are the bytes received, in order
abbrev pub SerialReadsInOrder : Type 0
SerialReadsInOrder =
    (before : Sending) (happenings : List Happening) → AllKeep before.com1.uart (all_calls before happenings) →
    all_taken before.com1.uart (all_calls before happenings) ++ (after_all before happenings).com1.uart.queue
    ≡ before.com1.uart.queue ++ bytes_come happenings
