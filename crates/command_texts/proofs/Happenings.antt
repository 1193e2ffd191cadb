-- What happens to a board with a serial port, one thing after another.
use Rattle.std.proofs.Common.{arith, ◌≡◌, ℕ, Bool, List, [], ◌∷◌, ◌++◌, length, map, reverse, inl, inr, refl, sym, ap}
use Rattle.std.proofs.Common.{◌∙◌, append-nil, append_assoc}
use Rattle.std.proofs.lemmas.Bool.Decides.{nat_tests}
use Rattle.board_spec.proofs.OrderLawProofs.{statements-append}
use Rattle.board_prelude.proofs.{cases_Bool, length-map, length-reverse, nil_from_length, Event, Line, Entry, IsAnswer}
use Rattle.board_prelude.proofs.{reset_control, is_hard_reset, statement_of, statements_of}
use Rattle.board_prelude.specs.{Statement}
use Rattle.board_core.specs.Kept.{Standing}
use Rattle.uart_16550.specs.declared.com1.Happening.{Happening}
use Rattle.uart_16550.specs.declared.com1.Happening.TheVariants.{Comes, Happens}
use Rattle.uart_16550.specs.Uart.{received}
use Rattle.uart_16550.specs.Writes.{differ}
use Rattle.uart_16550.specs.Com1.{com1_actor, com1_at_reset, com1_irq, level_of, line_steps, change_steps, com1_after}
use Rattle.uart_16550.specs.Com1.{board_steps}
use Rattle.uart_16550.specs.Serial.{Serial, GoesOnBy, IsLeftAfter}
use Rattle.uart_16550.specs.Sent.{Sending, sending_after, bytes_sent}
use Rattle.uart_16550.specs.SerialOrder.{after_all}
use Rattle.uart_16550.proofs.ControlProofs.{control_follows}
use Rattle.command_texts.specs.Serial.{steps_for_all}
use Rattle.command_texts.specs.SerialSteps.{IsStanding, Happened}

-- ---- lists of happenings, cut

pub after_all-append : (port : Sending) (first second : List Happening) →
    after_all port (first ++ second) ≡ after_all (after_all port first) second
after_all-append port [] second = refl
after_all-append port (happening ∷ first) second = after_all-append (sending_after port happening) first second

pub sent-append : (port : Sending) (first second : List Happening) →
    bytes_sent port (first ++ second) ≡ bytes_sent port first ++ bytes_sent (after_all port first) second
sent-append port [] second = refl
sent-append port (happening ∷ first) second =
    simp (append_assoc, sent-append (sending_after port happening) first second)

pub steps-append : (actor : ℕ) (port : Sending) (first second : List Happening) →
    steps_for_all actor port (first ++ second)
    ≡ steps_for_all actor port first ++ steps_for_all actor (after_all port first) second
steps-append actor port [] second = refl
steps-append actor port (happening ∷ first) second =
    simp (append_assoc, steps-append actor (sending_after port happening) first second)

-- bytes that come send none
pub none_sent : (port : Sending) (bytes : List ℕ) → bytes_sent port (map Comes bytes) ≡ []
none_sent port [] = refl
none_sent port (byte ∷ bytes) = none_sent (sending_after port (Comes byte)) bytes

-- ---- the steps of the board

abbrev IsAfterHere : Standing → Bool → List Entry → List Statement → Type 0
IsAfterHere board level before steps =
    IsLeftAfter IsAnswer (λ (b : Standing). b.setup) (λ (b : Standing) (h : List Entry). b.entries ≡ h) board level
    before steps

now_at : (new : Serial Standing) (before : List Entry) (steps : List Statement) →
    IsAfterHere new.board (level_of new.com1) before steps → IsStanding new × GoesOnBy before steps new.board.entries
now_at new before steps after = grind (arith, nat_tests)

steps_added : (before after : List Entry) (steps : List Statement) → GoesOnBy before steps after →
    statements_of after ≡ statements_of before ++ steps
steps_added before after steps goes_on = grind (arith, nat_tests, statements-append)

-- ---- the reset control register

-- a level of line 4 leaves it
line_leaves : (before after : List Entry) (old new : Bool) →
    GoesOnBy before (line_steps old new) after → reset_control after ≡ reset_control before
line_leaves before after old new goes_on = elim (cases_Bool (differ old new)) [
  | inl moves ↦
      control_follows before after com1_actor (Line com1_irq new) com1_at_reset (rw moves at goes_on)
  | inr stays ↦
      let still : GoesOnBy before [] after = rw stays at goes_on in
      rw (
        still.grows,
        nil_from_length still.more
            (sym (length-map (reverse still.more) statement_of ∙ length-reverse still.more) ∙ ap length still.same),
      ) refl
]

-- ---- one thing

pub byte_came : (actor byte : ℕ) (old new : Serial Standing) →
    new.board.setup ≡ old.board.setup →
    new.com1 ≡ record old.com1 { uart = received old.com1.uart byte } →
    IsAfterHere new.board (level_of new.com1) old.board.entries (change_steps old.com1 new.com1) →
    Happened actor old (Comes byte ∷ []) new
byte_came actor byte old new setup com1 after =
    let now = now_at new old.board.entries (change_steps old.com1 new.com1) after in
    let left = line_leaves old.board.entries new.board.entries (level_of old.com1) (level_of new.com1) now.1 in
    let added = steps_added old.board.entries new.board.entries (change_steps old.com1 new.com1) now.1 in
    grind (arith, nat_tests, append-nil)

pub event_done : (actor : ℕ) (event : Event) (old new : Serial Standing) →
    new.board.setup ≡ old.board.setup →
    new.com1 ≡ com1_after (is_hard_reset old.board.entries event) event old.com1 →
    IsAfterHere new.board (level_of new.com1) old.board.entries
    (board_steps actor (is_hard_reset old.board.entries event) event old.com1) →
    Happened actor old (Happens event ∷ []) new
event_done actor event old new setup com1 after =
    let steps = board_steps actor (is_hard_reset old.board.entries event) event old.com1 in
    let now = now_at new old.board.entries steps after in
    let follows = control_follows old.board.entries new.board.entries actor event old.com1 now.1 in
    let added = steps_added old.board.entries new.board.entries steps now.1 in
    grind (arith, nat_tests, append-nil)

-- ---- and then more

pub happened_twice : (actor : ℕ) (old middle new : Serial Standing) (first second : List Happening) →
    Happened actor old first middle → Happened actor middle second new → Happened actor old (first ++ second) new
happened_twice actor old middle new first second one two =
    grind (arith, nat_tests, after_all-append, steps-append, append_assoc)
