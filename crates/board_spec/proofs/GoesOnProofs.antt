-- A begun history that is not complete goes on by a statement of the phase where it stands.
use Rattle.std.proofs.Common.{◌≡◌, ℕ, ◌+◌, ◌≤◌, ◌<◌, inl, inr, List, [], ◌∷◌, ◌++◌, length, take, drop, refl, sym, ap}
use Rattle.std.proofs.Common.{subst, arith, ◌∙◌, append_assoc}
use Rattle.std.proofs.lemmas.Bool.Decides.{nat_tests}
use Rattle.std.proofs.Math.ListN.{drop_of_length-le}
use Rattle.std.proofs.lemmas.List.{take-append-le, drop-append-le, length-append, length-take, take_all, append-nil}
use Rattle.std.proofs.lemmas.List.{nil_from_length}
use Rattle.std.proofs.lemmas.List.Elements.{recursion_from_All}
use Rattle.std.proofs.lemmas.Bool.{cases_eq, cases_lt}
use Rattle.std.specs.List.{AllByRecursion}
use Rattle.board_spec.specs.Orders.{events_by, BeginsWith, IsWholePhase, IsFrontOfPhase, HasPhases, HasPhasesSoFar}
use Rattle.board_spec.specs.Laws.{IsAddressed}
use Rattle.board_spec.specs.OrderLaws.{in_file_order, BegunGoesOn}
use Rattle.board_spec.specs.Legal.{next_entry}
use Rattle.board_spec.specs.declared.event.Event.{Event}
use Rattle.board_spec.specs.declared.event.Statement.{Statement}
use Rattle.board_spec.proofs.ReplayLaws.{some_answer}
use Rattle.board_spec.proofs.OrderLawProofs.{events-append, statements-newest}

abbrev AllAddressed : List Statement → Type 0
AllAddressed statements = AllByRecursion (λ (statement : Statement). IsAddressed statement.event) statements

abbrev Begins : (phase part : List Statement) → Type 0
Begins phase part = (actor : ℕ) → BeginsWith (events_by actor phase) (events_by actor part)

-- what is left of a phase after a part of it
record Left (phase part : List Statement) : Type 0 where
  pub rest : List Statement
  pub size : length phase ≡ length part + length rest
  pub each : (actor : ℕ) → events_by actor phase ≡ events_by actor part ++ events_by actor rest
  pub addressed : AllAddressed phase → AllAddressed rest

after_first : (first : Statement) (events : List Event) (phase : List Statement) →
    events_by first.actor phase ≡ first.event ∷ events → Left phase (first ∷ [])
after_first first events [] is = cc
after_first first events (other ∷ later) is =
    elim (cases_eq other.actor first.actor) [
      | inl own ↦ record {
        rest = later;
        size = omega arith;
        each = λ actor. grind (arith, nat_tests);
        addressed = λ all. all.1;
      }
      | inr apart ↦
          let more = after_first first events later (grind (arith, nat_tests)) in
          record {
            rest = other ∷ more.rest;
            size = omega (arith, more.size);
            each = λ actor. grind (arith, nat_tests, more.each actor);
            addressed = λ all. (all.0, more.addressed all.1);
          }
    ]

left_of : (phase part : List Statement) → Begins phase part → Left phase part
left_of phase [] begins =
    record { rest = phase; size = omega arith; each = λ actor. refl; addressed = λ all. all }
left_of phase (first ∷ part) begins =
    let here = begins first.actor in
    let taken = after_first first (events_by first.actor part ++ here.rest) phase
    (grind (arith, nat_tests, here.whole)) in
    let more = left_of taken.rest part (λ actor. record {
      rest = (begins actor).rest;
      whole = grind (arith, nat_tests, taken.each actor, (begins actor).whole);
    }) in
    record {
      rest = more.rest;
      size = omega (arith, taken.size, more.size);
      each = λ actor. grind (arith, nat_tests, taken.each actor, more.each actor);
      addressed = λ all. more.addressed (taken.addressed all);
    }

-- what has a statement more
record Next (Has : List Statement → Type 0) (part : List Statement) : Type 0 where
  pub statement : Statement
  pub addressed : IsAddressed statement.event
  pub begins : Has (part ++ statement ∷ [])

-- a front with something left has a next statement
next_of : (phase part rest : List Statement) → AllAddressed rest → 0 < length rest →
    ((actor : ℕ) → events_by actor phase ≡ events_by actor part ++ events_by actor rest) → Next (Begins phase) part
next_of phase part [] addressed some each = absurd (omega arith)
next_of phase part (first ∷ later) addressed some each = record {
  statement = first;
  addressed = addressed.0;
  begins = λ actor. record {
    rest = events_by actor later;
    whole =
        rw (
          events-append actor part (first ∷ []),
          append_assoc (events_by actor part) (events_by actor (first ∷ [])) (events_by actor later),
        )
        (each actor
        ∙ ap (λ (events : List Event). events_by actor part ++ events) (events-append actor (first ∷ []) later));
  };
}

-- ---- the phases

all_parts : (first later : List Statement) → AllAddressed (first ++ later) → AllAddressed first × AllAddressed later
all_parts [] later all = (tt, all)
all_parts (statement ∷ first) later all =
    let rest = all_parts first later all.1 in
    ((all.0, rest.0), rest.1)

pub none_so_far : (phases : List (List Statement)) → HasPhasesSoFar phases []
none_so_far [] = refl
none_so_far (phase ∷ later) =
    inl (record { size = omega arith; each = λ actor. record { rest = events_by actor phase; whole = refl } })

abbrev NextSoFar : List (List Statement) → List Statement → Type 0
NextSoFar phases statements = Next (HasPhasesSoFar phases) statements

past_phase : (phase : List Statement) (later : List (List Statement)) (statements : List Statement) →
    length phase ≤ length statements → IsWholePhase phase (take (length phase) statements) →
    NextSoFar later (drop (length phase) statements) → NextSoFar (phase ∷ later) statements
past_phase phase later statements full whole more = record {
  statement = more.statement;
  addressed = more.addressed;
  begins = inr (
    rw (take-append-le (length phase) statements (more.statement ∷ []) full) whole,
    rw (drop-append-le (length phase) statements (more.statement ∷ []) full) more.begins,
  );
}

-- a front of the first phase that is as long as it is the whole of it, and nothing follows
pub whole_front : (phase statements : List Statement) → IsFrontOfPhase phase statements →
    length phase ≤ length statements → IsWholePhase phase (take (length phase) statements)
whole_front phase statements front full =
    let left = left_of phase statements front.each in
    let none : left.rest ≡ [] = nil_from_length left.rest (omega (arith, left.size)) in
    rw (take_all (length phase) statements front.size) (record {
      size = omega (arith, front.size);
      each = λ actor. sym (rw (none, append-nil (events_by actor statements)) at (left.each actor));
    })

pub nothing_left : (phase statements : List Statement) → IsFrontOfPhase phase statements →
    length phase ≤ length statements → drop (length phase) statements ≡ []
nothing_left phase statements front full = drop_of_length-le statements front.size

next_so_far : (phases : List (List Statement)) (statements : List Statement) → AllAddressed (in_file_order phases) →
    HasPhasesSoFar phases statements → ¬ HasPhases phases statements → NextSoFar phases statements
next_so_far [] statements addressed begun open_still = absurd (open_still begun)
next_so_far (phase ∷ later) statements addressed (inl front) open_still =
    elim (cases_lt (length statements) (length phase)) [
      | inl short ↦
          let left = left_of phase statements front.each in
          let next = next_of phase statements left.rest (left.addressed (all_parts phase _ addressed).0)
          (omega (arith, left.size)) left.each in
          record {
            statement = next.statement;
            addressed = next.addressed;
            begins = inl (record {
              size = omega (arith, length-append statements (next.statement ∷ []));
              each = next.begins;
            });
          }
      | inr full ↦
          let whole = whole_front _ _ front full in
          let nothing : drop (length phase) statements ≡ [] = nothing_left _ _ front full in
          past_phase _ _ _ full whole
          (subst (NextSoFar later) (sym nothing)
          (next_so_far later [] (all_parts phase _ addressed).1 (none_so_far later)
          (λ complete. open_still (whole, subst (HasPhases later) (sym nothing) complete))))
    ]
next_so_far (phase ∷ later) statements addressed (inr whole) open_still =
    let full : length phase ≤ length statements = omega (arith, whole.0.size, length-take (length phase) statements) in
    past_phase _ _ _ full whole.0
    (next_so_far later (drop (length phase) statements) (all_parts phase _ addressed).1 whole.1
    (λ complete. open_still (whole.0, complete)))

pub begun_goes_on : BegunGoesOn
begun_goes_on setup phases history addressed legal begun open_still =
    let next = next_so_far _ _ (recursion_from_All (λ (statement : Statement). IsAddressed statement.event)
    (in_file_order phases) addressed) begun open_still in
    let answered = some_answer setup history next.statement.event next.addressed in
    let entry = next_entry history next.statement.actor next.statement.event answered.reply in
    record {
      entry = entry;
      next = record { number = refl; answer = answered.answer };
      begun = subst (HasPhasesSoFar phases) (sym (statements-newest entry history)) next.begins;
    }
