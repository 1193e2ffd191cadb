-- The walk within a phase: past a line of a log, or where it stops.
use Rattle.std.proofs.Common.{ℕ, ◌≡◌, ◌≢◌, ◌+◌, ◌-◌, ◌<◌, ◌≤◌, List, [], ◌∷◌, ◌++◌, length, All, refl, ◌∙◌, inl, inr}
use Rattle.std.proofs.Common.{ap, append_assoc, append-nil, length-append, arith, Option, Some, Result, Ok, Err}
use Rattle.std.proofs.Common.{MatchResult}
use Rattle.std.specs.Borrow.{Bor}
use Rattle.std.specs.Result.{IsErrAnd}
use Rattle.board_prelude.proofs.{Event, Entry, Setup, IsNext, IsLegal, IsBegunFor, IsCompleteFor, OneReplay, line_feed}
use Rattle.board_prelude.proofs.{line_text, log_text, common_steps, nat_tests, append_cancel_left, statement_of}
use Rattle.board_prelude.proofs.{statements_of, events_by, BeginsWith, statements-newest, in_file_order, length-map}
use Rattle.board_prelude.proofs.{length-reverse, whole_is_complete, complete_is_whole}
use Rattle.board_prelude.specs.{Statement}
use Rattle.log_check.specs.declared.fault.CheckFault.{CheckFault}
use Rattle.log_check.specs.declared.fault.CheckFault.TheVariants.{Differs, NoMemory}
use Rattle.log_check.specs.Phases.{IsTyped}
use Rattle.log_check.specs.Checked.{IsAtMostNext}
use Rattle.log_check.specs.Walks.{WalkPlace, IsWithin, IsPast, StoppedCheck}
use Rattle.log_check.proofs.NextStatements.{done_size, begun_joined, begun_left, goes_first, small_actor}
use Rattle.log_check.proofs.PhaseLists.{length_cut}
use Rattle.log_check.proofs.LogLines.{log-newest}
use Rattle.log_check.proofs.Histories.{one_entry}

abbrev pub phases_of : WalkPlace → List Statement → List (List Statement)
phases_of place phase = place.done ++ phase ∷ place.later

-- at the start of a phase all of it is left
pub within_start : (place : WalkPlace) (phase : List Statement) (left : ℕ → List Event) (history : List Entry) →
    IsCompleteFor place.done history → place.count ≡ 0 → ((actor : ℕ) → left actor ≡ events_by actor phase) →
    IsWithin place phase left history
within_start place phase left history complete none all =
    grind (arith, nat_tests, common_steps, statements_of, append-nil)

module _ (place : WalkPlace) (phase : List Statement) (left : ℕ → List Event) (history : List Entry)
    (within : IsWithin place phase left history) where
  within_size : length history ≡ length (in_file_order place.done) + place.count
  within_size =
      let stated = ap length within.statements in
      grind (arith, nat_tests, length-map, length-reverse, length-append, done_size)

  within_begun : (later : List (List Statement)) → place.count ≤ length phase →
      IsBegunFor (place.done ++ phase ∷ later) history
  within_begun later short = grind (arith, nat_tests, begun_joined)

  -- with all statements of the phase it is complete
  pub within_whole : place.count ≡ length phase → IsCompleteFor (place.done ++ phase ∷ []) history
  within_whole full = grind (arith, nat_tests, within_begun, within_size, length_cut, whole_is_complete)

  -- with fewer it is not
  within_unfinished : place.count < length phase → ¬ IsCompleteFor (phases_of place phase) history
  within_unfinished short complete = grind (arith, nat_tests, within_size, length_cut, complete_is_whole)

  said : (entry : Entry) →
      statements_of (entry ∷ history) ≡ within.before ++ (within.part ++ statement_of entry ∷ [])
  said entry =
      statements-newest entry history
      ∙ rw within.statements (append_assoc within.before within.part (statement_of entry ∷ []))

  -- an entry that may come next is of its processor's next statement
  next_left : (entry : Entry) → place.count < length phase → IsBegunFor (phases_of place phase) (entry ∷ history) →
      BeginsWith (left entry.actor) (entry.event ∷ [])
  next_left entry short begun =
      let newest = statements-newest entry history in
      let after =
      begun_left place.done (phase ∷ place.later) within.before (within.part ++ statement_of entry ∷ []) in
      let first = goes_first phase place.later within.part (statement_of entry) in
      grind (arith, nat_tests, append_assoc, length-append, append_cancel_left, newest, after, first)

  within_next :
      (after : ℕ → List Event) (entry : Entry) → left entry.actor ≡ entry.event ∷ after entry.actor →
      ((other : ℕ) → other ≢ entry.actor → after other ≡ left other) →
      IsWithin (record place { count = place.count + 1 }) phase after (entry ∷ history)
  within_next after entry own others = record {
    before = within.before;
    part = within.part ++ statement_of entry ∷ [];
    statements = said entry;
    whole = within.whole;
    size = omega (arith, length-append within.part (statement_of entry ∷ []), within.size);
    each = λ actor. grind (arith, nat_tests, common_steps, within.each actor);
  }

-- ---- a line

-- a walk before a line, when so many lines of entries are past
pub record Walk (setup : Setup) (phase : List Statement) (history : List Entry) (rest : List ℕ) (lines : ℕ) : Type 0
  where
    pub legal : IsLegal setup history
    pub typed : All IsTyped phase
    pub count : lines ≡ length history

-- the processor of line `n` is this, where that line is an entry's
abbrev pub Names : (n : ℕ) → List ℕ → Option ℕ → Type 0
Names n rest processor =
    (entry : Entry) (after : List ℕ) → entry.actor < 256 → rest ≡ line_text n entry ++ after →
    processor ≡ Some entry.actor

-- the entry of a processor's next statement is made
pub record Made (setup : Setup) (left after : ℕ → List Event) (history : List Entry) (entry : Entry) : Type 0 where
  pub next : IsNext setup history entry
  pub own : left entry.actor ≡ entry.event ∷ after entry.actor
  pub others : (other : ℕ) → other ≢ entry.actor → after other ≡ left other

module _ {setup : Setup} {phase : List Statement} {left : ℕ → List Event} {history : List Entry} {rest : List ℕ}
    {lines : ℕ} (walk : Walk setup phase history rest lines) (place : WalkPlace)
    (within : IsWithin place phase left history) (past : IsPast place history rest)
    (short : place.count < length phase) where
  abbrev Stops : List Entry → CheckFault → Type 0
  Stops entries fault = StoppedCheck setup place.version (phases_of place phase) place.bytes entries fault

  begun : IsBegunFor (phases_of place phase) history
  begun = within_begun place phase left history within place.later (omega (arith, short))

  -- where no entry that may come next has the next line
  stopped : (processor : Option ℕ) → Names (lines + 2 - 1) rest processor → (entries : List Entry) →
      IsAtMostNext history entries → IsLegal setup entries → IsBegunFor (phases_of place phase) entries →
      ((entry : Entry) (after : List ℕ) → IsNext setup history entry → processor ≡ Some entry.actor →
      BeginsWith (left entry.actor) (entry.event ∷ []) →
      rest ≢ line_text (length history + 1) entry ++ line_feed ∷ after) → Stops entries (Differs (lines + 2))
  stopped processor named entries stepped legal grown none = record {
    by = record {
      at_line = record {
        before = history;
        rest = rest;
        text = past;
        place = omega (arith, walk.count);
        stepped = stepped;
      };
      legal = walk.legal;
      begun = begun;
      none = λ entry after next more text.
          let first = next_left place phase left history within entry short more in
          let number : lines + 2 - 1 ≡ length history + 1 = omega (arith, walk.count) in
          let small : entry.actor < 256 = small_actor entry.actor phase walk.typed
          (rw (within.each entry.actor, first.whole) (simp length-append (omega arith))) in
          none entry after next (named entry (line_feed ∷ after) small (rw number text)) first text;
      unfinished = λ nothing. within_unfinished place phase left history within short;
    };
    legal = legal;
    begun = grown;
  }

  -- no processor is named that has a statement left
  pub stops_here : (processor : Option ℕ) → Names (lines + 2 - 1) rest processor →
      ((actor : ℕ) → processor ≡ Some actor → left actor ≡ []) → Stops history (Differs (lines + 2))
  stops_here processor named nothing =
      stopped processor named history (inl refl) walk.legal begun
      (λ entry after next found first text. let none = nothing entry.actor found in cc (first.whole))

  -- ---- with the entry of the processor's next statement

  module _ {after : ℕ → List Event} {entry : Entry} (made : Made setup left after history entry) where
    within_made : IsWithin (record place { count = place.count + 1 }) phase after (entry ∷ history)
    within_made = within_next place phase left history within after entry made.own made.others

    begun_made : IsBegunFor (phases_of place phase) (entry ∷ history)
    begun_made =
        within_begun (record place { count = place.count + 1 }) phase after (entry ∷ history) within_made place.later
        (omega (arith, short))

    -- there is no memory for its line
    pub stops_without_memory : Stops (entry ∷ history) NoMemory
    stops_without_memory = record {
      by = (
        length history + 2,
        record { before = history; rest = rest; text = past; place = refl; stepped = inr (entry, refl) },
      );
      legal = (made.next, walk.legal);
      begun = begun_made;
    }

    -- the log goes on with its line, or not
    pub past_line :
        (printed : List ℕ) (actor : ℕ) (result : Result (Bor (List ℕ)) CheckFault) → OneReplay →
        entry.actor ≡ actor → Names (lines + 2 - 1) rest (Some actor) →
        printed ≡ line_text (length history + 1) entry ++ line_feed ∷ [] →
        MatchResult result (λ remaining. rest ≡ printed ++ remaining.now)
        (λ fault. (fault ≡ Differs (lines + 2)) × ((remaining : List ℕ) → rest ≢ printed ++ remaining)) →
        MatchResult result
        (λ remaining. IsWithin (record place { count = place.count + 1 }) phase after (entry ∷ history)
        × IsPast place (entry ∷ history) remaining.now)
        (λ fault. Stops (entry ∷ history) fault)
    past_line printed actor (Ok remaining) one own named is told = (
      within_made,
      past ∙ rw (log-newest place.version entry history remaining.now, told, is)
          (ap (λ (t : List ℕ). log_text place.version history ++ t)
          (append_assoc (line_text (length history + 1) entry) (line_feed ∷ []) remaining.now)),
    )
    past_line printed actor (Err fault) one own named is told =
        rw told.0
        (stopped (Some actor) named (entry ∷ history) (inr (entry, refl)) (made.next, walk.legal) begun_made
        (λ other remaining next found first text.
        let same : entry.actor ≡ other.actor = cc in
        let event : entry.event ≡ other.event = cc (made.own, first.whole) in
        let equal = one_entry one setup history entry other (made.next, walk.legal) (next, walk.legal) same event in
        told.1 remaining (text ∙ rw (is, equal) (simp append_assoc))))

-- a fault is handed on
pub handed_on : {T : Type 0} (result : Result T CheckFault) (fault : CheckFault) (P : T → Type 0)
    (Q : CheckFault → Type 0) → IsErrAnd result (λ given. given ≡ fault) → Q fault → MatchResult result P Q
handed_on (Ok value) fault P Q is holds = absurd is
handed_on (Err given) fault P Q is holds = rw is holds

-- `check_phase` is proved by these
pub ruleset check_phase_rules = (handed_on, within_start, within_whole, nat_tests)
