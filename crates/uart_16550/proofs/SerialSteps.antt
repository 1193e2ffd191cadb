-- How the histories go on that leave a board with a serial port.
use Rattle.std.proofs.Common.{◌≡◌, ℕ, ◌<◌, Bool, true, false, List, [], ◌∷◌, ◌++◌, refl, sym, ap, subst, ◌∙◌}
use Rattle.std.proofs.Common.{append_assoc, lt_irrefl, None, unwrap_or, arith}
use Rattle.board_prelude.proofs.{PortAccess, Event, Port, Line, Reply, Entry, Setup, line_set, irq_of, next_entry}
use Rattle.board_prelude.specs.{Statement}
use Rattle.board_spec.proofs.OrderLawProofs.{statements-append}
use Rattle.uart_16550.specs.declared.com1.Com1.{Com1}
use Rattle.uart_16550.specs.Com1.{com1_irq, com1_actor, level_of, board_event, line_steps, change_steps, com1_after}
use Rattle.uart_16550.specs.Com1.{board_steps, uart_access}
use Rattle.uart_16550.specs.Serial.{SetsLine, GoesOnBy, AreAnswered, AnsweredIsLegal, IsLeftAt, IsLeftAfter}
use Rattle.std.proofs.lemmas.Bool.Decides.{nat_tests}

-- a processor is not the port
pub other_actor : (actor : ℕ) (event : Event) → actor < com1_actor → actor ≡ com1_actor → SetsLine event
other_actor actor event below is = elim (lt_irrefl com1_actor (rw is at below)) [ ]

pub goes_on_twice : (before middle after : List Entry) (first second : List Statement) →
    GoesOnBy before first middle → GoesOnBy middle second after → GoesOnBy before (first ++ second) after
goes_on_twice before middle after first second one two = record {
  more = two.more ++ one.more;
  grows = rw (two.grows, one.grows) (sym (append_assoc two.more one.more before));
  same = rw (statements-append two.more one.more, one.same, two.same) refl;
}

answered_twice : (is_answer : List Entry → Event → Reply → Type 0) (before one two : List Entry) →
    AreAnswered is_answer before one → AreAnswered is_answer (one ++ before) two →
    AreAnswered is_answer before (two ++ one)
answered_twice is_answer before one [] first second = grind (arith, nat_tests, append_assoc)
answered_twice is_answer before one (entry ∷ two) first second =
    grind (arith, nat_tests, append_assoc, answered_twice is_answer before one two first second.1)

pub answered_is_legal : AnsweredIsLegal
answered_is_legal setup before [] legal answered = grind (arith, nat_tests)
answered_is_legal setup before (entry ∷ more) legal answered =
    grind (arith, nat_tests, answered_is_legal setup before more legal answered.1)

-- ---- an event that is no access at a port and no level of a line is for the board alone

pub record IsPlain (event : Event) : Type 0 where
  pub access : uart_access event ≡ None
  pub after : (resets : Bool) (com1 : Com1) → com1_after resets event com1 ≡ com1
  pub heard : (com1 : Com1) → board_event com1 event ≡ event
  pub alone : (actor : ℕ) (resets : Bool) (com1 : Com1) →
      board_steps actor resets event com1 ≡ record { actor = actor; event = event } ∷ []
  pub unset : line_set com1_irq event ≡ None

pub is_plain : (event : Event) → ((access : PortAccess) → event ≡ Port access → ⊥) →
    ((irq : ℕ) (on : Bool) → event ≡ Line irq on → ⊥) → IsPlain event
is_plain event no_port no_line = grind (arith, nat_tests)

-- ---- steps

-- the script set the level of line 4
abbrev pub with_level : Com1 → Bool → Com1
with_level com1 on = record com1 { script_level = on }

-- a level that stays is no step
pub same_level : (level : Bool) → line_steps level level ≡ []
same_level true = refl
same_level false = refl

module _ {B : Type 0} {is_answer : Setup → List Entry → Event → Reply → Type 0} {setup_of : B → Setup}
    {left_by : B → List Entry → Type 0} where
  -- the board does nothing
  pub no_step : {board : B} {level : Bool} {history : List Entry} → IsLeftAt left_by board level history →
      IsLeftAfter is_answer setup_of left_by board level history []
  no_step {history = history} left_at = record {
    after = history;
    left_at = left_at;
    goes_on = record { more = []; grows = refl; same = refl };
    answered = tt;
  }

  -- the board does something, and then something more
  pub then_more : (middle new : B) (level next : Bool) (before : List Entry) (first second : List Statement) →
      setup_of new ≡ setup_of middle →
      IsLeftAfter is_answer setup_of left_by middle level before first →
      ((history : List Entry) → IsLeftAt left_by middle level history →
      IsLeftAfter is_answer setup_of left_by new next history second) →
      IsLeftAfter is_answer setup_of left_by new next before (first ++ second)
  unfolding goes_on_twice
  then_more middle new level next before first second same one two =
      let last = two one.after one.left_at in
      let answers = is_answer (setup_of new) in
      record {
        after = last.after;
        left_at = last.left_at;
        goes_on = goes_on_twice before one.after last.after first second one.goes_on last.goes_on;
        answered =
            answered_twice answers before one.goes_on.more last.goes_on.more
            (rw same one.answered)
            (subst (λ (list : List Entry). AreAnswered answers list last.goes_on.more) one.goes_on.grows last.answered);
      }

  -- the board does one event
  module _ {old new : B} {level : Bool} {history : List Entry} {actor : ℕ} {event : Event} {reply : Reply}
      (left_at : IsLeftAt left_by old level history) (same : setup_of new ≡ setup_of old)
      (answer : is_answer (setup_of old) history event reply)
      (left : left_by new (next_entry history actor event reply ∷ history)) where
    pub one_step : (next : Bool) → unwrap_or (line_set com1_irq event) level ≡ next →
        (actor ≡ com1_actor → SetsLine event) →
        IsLeftAfter is_answer setup_of left_by new next history (record { actor = actor; event = event } ∷ [])
    unfolding irq_of
    one_step next is own = record {
      after = next_entry history actor event reply ∷ history;
      left_at = record {
        left = left;
        level_is = ap (unwrap_or (line_set com1_irq event)) left_at.level_is ∙ is;
        own = (own, left_at.own);
      };
      goes_on = record { more = next_entry history actor event reply ∷ []; grows = refl; same = refl };
      answered = (record { number = refl; answer = rw same answer }, tt);
    }

    -- one of a processor, under another name
    pub named_step : (next : Bool) (name : Event) → unwrap_or (line_set com1_irq event) level ≡ next →
        actor < com1_actor → event ≡ name →
        IsLeftAfter is_answer setup_of left_by new next history (record { actor = actor; event = name } ∷ [])
    named_step next name is below named = rw (← named) (one_step next is (other_actor actor event below))

    -- one of a processor that does not set the line
    pub quiet_step : line_set com1_irq event ≡ None → actor < com1_actor →
        IsLeftAfter is_answer setup_of left_by new level history (record { actor = actor; event = event } ∷ [])
    quiet_step unset below = one_step level (rw unset refl) (other_actor actor event below)

    -- one that is for the board alone
    pub plain_step : (com1 : Com1) (resets : Bool) → IsPlain event → actor < com1_actor →
        IsLeftAfter is_answer setup_of left_by new level history (board_steps actor resets event com1)
    plain_step com1 resets plain below = rw (plain.alone actor resets com1) (quiet_step plain.unset below)

    -- an access after which the port stays as it is
    pub accessed_alone : (com1 : Com1) → line_set com1_irq event ≡ None → actor < com1_actor →
        IsLeftAfter is_answer setup_of left_by new level history
        (record { actor = actor; event = event } ∷ change_steps com1 com1)
    accessed_alone com1 unset below = rw (same_level (level_of com1)) (quiet_step unset below)

    -- and one after which the board hears of the line what is new
    pub accessed_and_moved : (last : B) (com1 next : Com1) → line_set com1_irq event ≡ None → actor < com1_actor →
        setup_of last ≡ setup_of new →
        ((after : List Entry) → IsLeftAt left_by new level after →
        IsLeftAfter is_answer setup_of left_by last (level_of next) after (change_steps com1 next)) →
        IsLeftAfter is_answer setup_of left_by last (level_of next) history
        (record { actor = actor; event = event } ∷ change_steps com1 next)
    accessed_and_moved last com1 next unset below stays moved =
        then_more _ _ _ _ _ _ _ stays (quiet_step unset below) moved
