-- What a board with a serial port sends while a script is replayed on it and bytes come from outside.
use Rattle.std.specs.Prelude.{ℕ, ◌≡◌, ◌++◌, ◌∷◌, [], List, length, map, take, drop, if◌then◌else◌}
use Rattle.board_prelude.specs.{Entry, Statement, Setup, IsReplayOf, LockLaw}
use Rattle.uart_16550.specs.declared.com1.Happening.{Happening}
use Rattle.uart_16550.specs.declared.com1.Happening.TheVariants.{Comes, Happens}
use Rattle.uart_16550.specs.Uart.{Uart, has_room}
use Rattle.uart_16550.specs.Sent.{Sending, sending_at_reset, sending_after, steps_for, bytes_sent}
use Rattle.uart_16550.specs.SerialOrder.{after_all}
use Rattle.script_spec.specs.ScriptText.{Script as Said}
use Rattle.script_spec.specs.ScriptRange.{statements_in}

-- ---- what happens

-- what comes before a statement: the next byte of the input, where one is left and the port has room for it
abbrev pub bytes_before : Uart → (input : List ℕ) → List ℕ
bytes_before uart input = if has_room uart then take 1 input else []

-- and the input that is left then
abbrev pub left_after : Uart → (input : List ℕ) → List ℕ
left_after uart input = drop (length (bytes_before uart input)) input

-- these bytes come, and then the event of the statement is done
abbrev pub happenings_of : (bytes : List ℕ) → Statement → List Happening
happenings_of bytes statement = map Comes bytes ++ Happens statement.event ∷ []

-- so for each statement in order
unfoldable pub happenings_in : Sending → (input : List ℕ) → List Statement → List Happening
happenings_in port input [] = []
happenings_in port input (statement ∷ later) =
    let now = happenings_of (bytes_before port.com1.uart input) statement in
    now ++ happenings_in (after_all port now) (left_after port.com1.uart input) later

-- ---- what the board does for it

abbrev pub steps_for_all : (actor : ℕ) → Sending → List Happening → List Statement
steps_for_all actor port [] = []
steps_for_all actor port (happening ∷ later) =
    steps_for actor port happening ++ steps_for_all actor (sending_after port happening) later

unfoldable pub steps_in : Sending → (input : List ℕ) → List Statement → List Statement
steps_in port input [] = []
steps_in port input (statement ∷ later) =
    let now = happenings_of (bytes_before port.com1.uart input) statement in
    steps_for_all statement.actor port now ++ steps_in (after_all port now) (left_after port.com1.uart input) later

-- ---- the text

-- the bytes that are sent for what happens
abbrev pub sent_in : Sending → (input : List ℕ) → List Statement → List ℕ
sent_in port input statements = bytes_sent port (happenings_in port input statements)

-- they are the text, as they are. The history of the board behind it is the legal one with those steps, in which
-- nothing outside SMM reaches SMRAM once it is locked
pub record IsSerialText (setup : Setup) (script : Said) (input text : List ℕ) : Type 0 where
  pub history : List Entry
  pub replay : IsReplayOf setup (steps_in sending_at_reset input (statements_in script)) history
  pub locked : LockLaw setup history
  pub sent : text ≡ sent_in sending_at_reset input (statements_in script)
