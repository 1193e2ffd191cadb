-- A history is legal where the numbers and the replies of its lines are those that the definitions compute, which is
-- one equation of two columns, and where its looks are answered.
use Rattle.std.proofs.Common.{ℕ, ◌≡◌, ◌+◌, List, [], ◌∷◌, length, map, Option, Some, None}
use Rattle.board_prelude.specs.{Device, Event, Memory, Wide, Port, Ack, Part, Reply, Bus, Entry, Setup, parts_of}
use Rattle.board_prelude.specs.{parts_list, vector_of, acknowledged_by, IsAnswer, memory_answer, part_answer}
use Rattle.board_prelude.specs.{wide_value, port_answer, outside_answer, answers_outside, entries_by, IsLegal}
use Rattle.board_spec.specs.declared.event.Event.TheVariants.{Look as LookAt}
use Rattle.board_spec.specs.declared.event.Reply.TheVariants.{Parts as InParts}

-- a reply: whole, or the value and the parts of a wide access. That to a look is not computed, and nothing tells it
pub data Told : Type 0 where
  Whole : (reply : Reply) → Told
  InPieces : (value : Option ℕ) → (parts : List Part) → Told
  Seen : Told

abbrev told : Reply → Told
told (InParts parts value) = InPieces value (parts_list parts)
told reply = Whole reply

abbrev told_to : Event → Reply → Told
told_to (LookAt kind addr smm) reply = Seen
told_to _ reply = told reply

abbrev computed : Setup → List Entry → Event → Told
computed setup before (Memory access) = Whole (memory_answer setup before access)
computed setup before (Wide access) = InPieces (wide_value setup before access)
    (map (part_answer setup before) (parts_of access))
computed setup before (Port access) = Whole (port_answer setup before access)
computed setup before (LookAt kind addr smm) = Seen
computed setup before Ack = Whole (Bus (Some (vector_of setup before)) (Device (acknowledged_by setup before)) None)
computed setup before event = Whole (outside_answer (answers_outside event))

-- the answer to a look beside the answers to those before it
abbrev Beside : Event → (here earlier : Type 0) → Type 0
Beside (LookAt kind addr smm) here earlier = here × earlier
Beside _ here earlier = earlier

abbrev pub AreSeen : Setup → List Entry → Type 0
AreSeen setup [] = Unit {0}
AreSeen setup (entry ∷ before) =
    Beside entry.event (IsAnswer setup before entry.event entry.reply) (AreSeen setup before)

earlier_seen : (here earlier : Type 0) (event : Event) → Beside event here earlier → earlier
earlier_seen here earlier (LookAt kind addr smm) seen = seen.1
earlier_seen here earlier _ seen = seen

whole : (reply expected : Reply) → told reply ≡ Whole expected → reply ≡ expected
whole (InParts parts value) expected is = cc
whole _ expected is = cc

answer : (earlier : Type 0) (setup : Setup) (before : List Entry) (event : Event) (reply : Reply) →
    Beside event (IsAnswer setup before event reply) earlier → told_to event reply ≡ computed setup before event →
    IsAnswer setup before event reply
answer earlier setup before (Wide access) (InParts parts value) seen is = record { value_is = cc; each = cc }
answer earlier setup before (Wide access) _ seen is = cc
answer earlier setup before (LookAt kind addr smm) reply seen is = seen.0
answer earlier setup before _ reply seen is = whole reply _ is

-- the numbers and the replies of a history, as they stand and as they are computed
pub data Column : Type 0 where
  Start : Column
  After : (number : ℕ) → (reply : Told) → (before : Column) → Column

abbrev pub said_in : List Entry → Column
said_in [] = Start
said_in (entry ∷ before) = After entry.seq (told_to entry.event entry.reply) (said_in before)

abbrev pub computed_in : Setup → List Entry → Column
computed_in setup [] = Start
computed_in setup (entry ∷ before) =
    After (length (entries_by entry.actor before) + 1) (computed setup before entry.event) (computed_in setup before)

pub legal : (setup : Setup) (history : List Entry) → AreSeen setup history →
    said_in history ≡ computed_in setup history → IsLegal setup history
legal setup [] seen is = tt
legal setup (entry ∷ before) seen is =
    let here : Type 0 = IsAnswer setup before entry.event entry.reply in
    let earlier : Type 0 = AreSeen setup before in (
      record { number = cc; answer = answer earlier setup before entry.event entry.reply seen (cc) },
      legal setup before (earlier_seen here earlier entry.event seen) (cc),
    )
