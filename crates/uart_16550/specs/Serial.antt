-- A board with a serial port, and how it stands to the histories of its board.
use Rattle.std.specs.Prelude.{◌≡◌, ◌+◌, Bool, List, [], ◌∷◌, ◌++◌, length}
use Rattle.board_prelude.specs.{Event, Line, Reply, Entry, Statement, Setup, irq_of, IsAnswer, entries_by, IsLegal}
use Rattle.board_prelude.specs.{statements_of}
use Rattle.uart_16550.specs.declared.com1.Com1.{Com1}
use Rattle.uart_16550.specs.Com1.{com1_irq, com1_actor, level_of}

-- what a board with a serial port is seen as
pub record Serial (B : Type 0) : Type 0 where
  pub board : B
  pub com1 : Com1

-- an event sets the level of line 4
abbrev pub SetsLine : Event → Type 0
SetsLine (Line irq on) = irq ≡ com1_irq
SetsLine _ = ⊥

-- under the port's own number stand levels of line 4, and nothing else
abbrev pub IsOwn : Entry → Type 0
IsOwn entry = entry.actor ≡ com1_actor → SetsLine entry.event

abbrev pub AreOwn : List Entry → Type 0
AreOwn [] = Unit {0}
AreOwn (entry ∷ before) = IsOwn entry × AreOwn before

-- a history goes on with entries for these statements and no others, in this order
pub record GoesOnBy (before : List Entry) (statements : List Statement) (after : List Entry) : Type 0 where
  pub more : List Entry
  pub grows : after ≡ more ++ before
  pub same : statements_of more ≡ statements

-- an entry is the next of a history: its number is one more than its processor's entries, and its reply is an answer
pub record IsNextBy (is_answer : List Entry → Event → Reply → Type 0) (before : List Entry)
    (entry : Entry) : Type 0 where
  pub number : entry.seq ≡ length (entries_by entry.actor before) + 1
  pub answer : is_answer before entry.event entry.reply

-- entries, newest first, that go on from a history: each is the next of those before it
abbrev pub AreAnswered : (List Entry → Event → Reply → Type 0) → (before more : List Entry) → Type 0
AreAnswered is_answer before [] = Unit {0}
AreAnswered is_answer before (entry ∷ earlier) =
    IsNextBy is_answer (earlier ++ before) entry × AreAnswered is_answer before earlier

-- where answers are those of a board, a legal history so goes on to a legal one (`law_legal`)
abbrev pub AnsweredIsLegal : Type 0
AnsweredIsLegal =
    (setup : Setup) (before more : List Entry) → IsLegal setup before → AreAnswered (IsAnswer setup) before more →
    IsLegal setup (more ++ before)

-- of a kind of board: which histories leave one
module _ {B : Type 0} (left_by : B → List Entry → Type 0) where
  -- this history left the board: line 4 was given this level last, and what the port moved by itself was that line
  pub record IsLeftAt (board : B) (level : Bool) (history : List Entry) : Type 0 where
    pub left : left_by board history
    pub level_is : irq_of history com1_irq ≡ level
    pub own : AreOwn history

  -- the level of line 4 is that of the port: the or of the UART's line and the level that the script set
  abbrev pub IsLeftBy : Serial B → List Entry → Type 0
  IsLeftBy serial history = IsLeftAt serial.board (level_of serial.com1) history

-- and what is an answer, and the setup of one
module _ {B : Type 0} (is_answer : Setup → List Entry → Event → Reply → Type 0) (setup_of : B → Setup)
    (left_by : B → List Entry → Type 0) where
  -- a history left the board that goes on from this one with these statements, each with an answer
  pub record IsLeftAfter (board : B) (level : Bool) (before : List Entry) (statements : List Statement) : Type 0 where
    pub after : List Entry
    pub left_at : IsLeftAt left_by board level after
    pub goes_on : GoesOnBy before statements after
    pub answered : AreAnswered (is_answer (setup_of board)) before goes_on.more

  abbrev pub IsAfter : Serial B → (before : List Entry) → List Statement → Type 0
  IsAfter serial before statements = IsLeftAfter serial.board (level_of serial.com1) before statements
