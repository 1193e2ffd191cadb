-- A replay on a board with a serial port: one statement after another, and what was sent in all.
use Rattle.std.proofs.lemmas.Bool.Decides.{nat_tests}
use Rattle.std.proofs.Common.{◌≡◌, ℕ, ◌+◌, ◌*◌, ◌<◌, ◌≤◌, List, [], ◌∷◌, ◌++◌, length, map, take, get_or, refl}
use Rattle.std.proofs.Common.{append-nil, append_assoc, length-append, arith, true, All, slice_index}
use Rattle.board_prelude.proofs.{common_steps, take_more, length-take-le, Setup, reset_control, IsLegal, LegalKeepsLock}
use Rattle.board_prelude.specs.{Statement}
use Rattle.std.proofs.Math.Nat.{le-add_right}
use Rattle.board_core.specs.Kept.{Standing}
use Rattle.uart_16550.specs.declared.com1.Happening.TheVariants.{Comes, Happens}
use Rattle.uart_16550.specs.Serial.{Serial}
use Rattle.uart_16550.specs.Sent.{Sending, sent_by, sending_at_reset}
use Rattle.uart_16550.specs.Uart.{Uart, has_room}
use Rattle.uart_16550.specs.Com1.{com1_at_reset}
use Rattle.command_texts.specs.Serial.{bytes_before, left_after, happenings_in, steps_in, sent_in, IsSerialText}
use Rattle.command_texts.specs.SerialSteps.{IsStanding, Happened, SerialPlace, WentOn, port_of, IsForPort}
use Rattle.command_texts.proofs.Happenings.{sent-append, none_sent, happened_twice}
use Rattle.script_spec.specs.ScriptText.{Script as Said}
use Rattle.script_spec.specs.ScriptRange.{IsInRangeScript, statements_in}

pub went_nowhere : (place : SerialPlace) → IsStanding place.serial → WentOn place [] place
went_nowhere place standing = grind (arith, nat_tests, le-add_right)

pub went_on_step : (statement : Statement) (old middle new : Serial Standing) (input left sent after : List ℕ) →
    left ≡ left_after old.com1.uart input →
    Happened statement.actor old (map Comes (bytes_before old.com1.uart input)) middle →
    Happened statement.actor middle (Happens statement.event ∷ []) new →
    after ≡ sent ++ sent_by (port_of middle) (Happens statement.event) →
    old.board.spare ≤ middle.board.spare + 1 → middle.board.spare ≤ new.board.spare + 2 →
    WentOn (record { serial = old; input = input; sent = sent }) (statement ∷ [])
    (record { serial = new; input = left; sent = after })
unfolding happenings_in steps_in
went_on_step statement old middle new input left sent after gone received done added one two =
    grind (arith, nat_tests, happened_twice, sent-append, append_assoc, none_sent, append-nil)

pub went_on_twice : (old middle new : SerialPlace) (first second : List Statement) →
    WentOn old first middle → WentOn middle second new → WentOn old (first ++ second) new
went_on_twice old middle new first second one two = grind (arith, nat_tests, append_assoc, length-append)

-- one statement more of a list
pub went_on_more : (statements : List Statement) (i : ℕ) (statement : Statement) (old middle new : SerialPlace) →
    i < length statements → WentOn old (take i statements) middle →
    WentOn middle (get_or statements i statement ∷ []) new → WentOn old (take (i + 1) statements) new
went_on_more statements i statement old middle new within so_far next =
    rw (take_more statements i statement within) (went_on_twice _ _ _ _ _ so_far next)

-- the room that is left is enough for the statements that are left
pub room_for_next : (statements : List Statement) (i : ℕ) (old middle : SerialPlace) → i < length statements →
    3 * length statements ≤ old.serial.board.spare → WentOn old (take i statements) middle →
    3 ≤ middle.serial.board.spare
room_for_next statements i old middle within room so_far = grind (arith, nat_tests, length-take-le)

-- ---- the byte that comes

pub one_comes : (uart : Uart) (input : List ℕ) → has_room uart ≡ true → 1 ≤ length input →
    bytes_before uart input ≡ slice_index input 0 ∷ []
one_comes uart input room some = grind (arith, nat_tests, common_steps)

-- ---- the whole

reset_port : (serial : Serial Standing) → serial.com1 ≡ com1_at_reset → serial.board.entries ≡ [] →
    port_of serial ≡ sending_at_reset
unfolding reset_control
reset_port serial com1 entries = rw (com1, entries) refl

none_later : (port : Sending) (input : List ℕ) → (sent_in port input [] ≡ []) × (steps_in port input [] ≡ [])
unfolding happenings_in steps_in
none_later port input = (refl, refl)

pub serial_told : LegalKeepsLock → (setup : Setup) (script : Said) (fresh last : Serial Standing)
    (input left sent text : List ℕ) → fresh.board.setup ≡ setup → fresh.board.entries ≡ [] → fresh.com1 ≡ com1_at_reset
    →
    WentOn (record { serial = fresh; input = input; sent = [] }) (statements_in script)
    (record { serial = last; input = left; sent = sent }) → IsLegal last.board.setup last.board.entries →
    text ≡ sent → IsSerialText setup script input text
serial_told locks setup script fresh last input left sent text fitted none new went legal is =
    let begin = reset_port fresh new none in
    let steps = went.steps [] in
    let sends = went.sent [] in
    let later = none_later (port_of last) left in
    grind (arith, nat_tests, append-nil, locks)

-- the statements of a script are for its port
pub script_for_port : (setup : Setup) (script : Said) → IsInRangeScript script → setup.cards ≡ script.cards →
    All (IsForPort setup) (statements_in script)
script_for_port setup script range same i d within =
    let said = range.each setup same i d within in
    record { actor = omega (arith, said.actor, range.most_cpus); event = said.event }
