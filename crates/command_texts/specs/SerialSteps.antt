-- How a replay on a board with a serial port goes on.
use Rattle.std.specs.Prelude.{ℕ, ◌≡◌, ◌+◌, ◌*◌, ◌<◌, ◌≤◌, ◌++◌, List, length, Option, None}
use Rattle.board_prelude.specs.{Statement, Setup, IsInRange, reset_control, statements_of}
use Rattle.board_core.specs.Kept.{Standing}
use Rattle.uart_16550.specs.declared.com1.Happening.{Happening}
use Rattle.uart_16550.specs.declared.com1.SerialReply.{SerialReply}
use Rattle.uart_16550.specs.declared.com1.SerialReply.TheVariants.{Board, Uart}
use Rattle.uart_16550.specs.Com1.{com1_actor}
use Rattle.uart_16550.specs.Serial.{Serial, IsLeftBy}
use Rattle.uart_16550.specs.Sent.{Sending}
use Rattle.uart_16550.specs.SerialOrder.{after_all}
use Rattle.command_texts.specs.Serial.{steps_for_all, steps_in, sent_in}

-- the byte that an access sent
abbrev pub byte_read : SerialReply → Option ℕ
byte_read (Board reply) = None
byte_read (Uart value sent) = sent

-- an event of a processor that a board can do
pub record IsForPort (setup : Setup) (statement : Statement) : Type 0 where
  pub actor : statement.actor < com1_actor
  pub event : IsInRange setup statement.event

-- the port and the board's reset control
abbrev pub port_of : Serial Standing → Sending
port_of serial = record { com1 = serial.com1; control = reset_control serial.board.entries }

-- the history of the board left it and the port
abbrev pub IsStanding : Serial Standing → Type 0
IsStanding serial =
    IsLeftBy (λ board history. board.entries ≡ history) serial serial.board.entries

-- these happened to it, each event by this processor
pub record Happened (actor : ℕ) (old : Serial Standing) (happenings : List Happening) (new : Serial Standing) : Type 0
  where
    pub setup : new.board.setup ≡ old.board.setup
    pub standing : IsStanding new
    pub port : port_of new ≡ after_all (port_of old) happenings
    pub steps :
        statements_of new.board.entries
        ≡ statements_of old.board.entries ++ steps_for_all actor (port_of old) happenings

-- how far it came: the board with its port, the input that is left, and the bytes that were sent
pub record SerialPlace : Type 0 where
  pub serial : Serial Standing
  pub input : List ℕ
  pub sent : List ℕ

-- it went on with these statements: whatever comes later, all is sent and done in the whole that was to be
pub record WentOn (old : SerialPlace) (statements : List Statement) (new : SerialPlace) : Type 0 where
  pub setup : new.serial.board.setup ≡ old.serial.board.setup
  pub standing : IsStanding new.serial
  pub sent :
      (later : List Statement) →
      old.sent ++ sent_in (port_of old.serial) old.input (statements ++ later)
      ≡ new.sent ++ sent_in (port_of new.serial) new.input later
  pub steps :
      (later : List Statement) →
      statements_of old.serial.board.entries ++ steps_in (port_of old.serial) old.input (statements ++ later)
      ≡ statements_of new.serial.board.entries ++ steps_in (port_of new.serial) new.input later
  pub spare : old.serial.board.spare ≤ new.serial.board.spare + 3 * length statements
