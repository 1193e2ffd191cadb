-- What `phase` and statements add to what is kept.
use Rattle.board_prelude.proofs.{nat_tests, list_any, false≢true, map-append, map-set, get_or-map, length-map}
use Rattle.board_prelude.proofs.{sum_by-cons, get_or-append_seam}
use Rattle.board_prelude.specs.{Statement}
use Rattle.std.proofs.Common.{◌≡◌, ℕ, ◌+◌, ◌-◌, ◌<◌, true, not, List, [], ◌∷◌, ◌++◌, Vec, Global, vec_len, length}
use Rattle.std.proofs.Common.{get_or, filter, set, refl, sym, ap, ◌∙◌, arith, length-append, reverse, append_assoc}
use Rattle.std.proofs.Math.Seq.{set-append_seam}
use Rattle.script_spec.specs.Grammar.{Item, BeginPhase, Ask}
use Rattle.script_spec.specs.Reasons.{is_phase, is_setup, pulses_of, pulses_of_event}
use Rattle.script_spec.specs.ScriptText.{phase_items}
use Rattle.script_spec.specs.Phases.{lists_of}
use Rattle.script_spec.proofs.GoodItems.{NoReason, no_reason, within_limits}
use Rattle.script_spec.proofs.ReadingExists.{reverse_more, phases_more}
use Rattle.scripts.specs.declared.reading.Reading.{Reading}
use Rattle.scripts.specs.Reading.{Takes}

abbrev list_of : Vec Statement Global → List Statement
list_of phase = phase.items

-- the last phase with one statement more
statements_more : (front : List (List Statement)) (last : List Statement) (statement : Statement) →
    phase_items (front ++ (last ++ statement ∷ []) ∷ []) ≡ phase_items (front ++ last ∷ []) ++ Ask statement ∷ []
statements_more front last statement = simp (phases_more, map-append, append_assoc)

-- ---- `phase`

pub phase_taken :
    (old : Reading) (phases : Vec (Vec Statement Global) Global) (empty : Vec Statement Global) →
    empty.items ≡ [] → phases.items ≡ old.phases.items ++ empty ∷ [] →
    Takes old BeginPhase (record old { phases = phases })
phase_taken old phases empty nothing longer items is least =
    let none : NoReason items BeginPhase = no_reason items BeginPhase least in
    let limits = within_limits (BeginPhase ∷ items) none.limits in
    grind (arith, nat_tests, sum_by-cons, reverse_more, phases_more, map-append, length-append, is.phases)

-- ---- statements

-- the last of the vectors grows
pub last_longer :
    (phases : Vec (Vec Statement Global) Global) (front : List (List Statement)) (last : List Statement)
    (old new : Vec Statement Global) (statement : Statement) → lists_of phases.items ≡ front ++ last ∷ [] →
    old ≡ get_or phases.items (vec_len phases - 1) old → new.items ≡ old.items ++ statement ∷ [] →
    lists_of (set phases.items (vec_len phases - 1) new) ≡ front ++ (last ++ statement ∷ []) ∷ []
last_longer phases front last old new statement are here longer =
    let count : length phases.items ≡ length front + 1 =
    sym (length-map phases.items list_of) ∙ ap length are ∙ length-append front (last ∷ []) in
    let place : vec_len phases - 1 ≡ length front = omega (arith, phases.ok.0, count) in
    let found = get_or-map list_of phases.items (vec_len phases - 1) old old.items (omega (arith, place, count)) in
    let seam = get_or-append_seam front last [] old.items in
    let grown = map-set list_of phases.items (vec_len phases - 1) new in
    let filled = set-append_seam front last [] (last ++ statement ∷ []) in
    grind (arith, nat_tests)

some_phase : (items : List Item) → list_any is_phase items ≡ true → 0 < length (filter is_phase items)
some_phase [] any = absurd (false≢true any)
some_phase (item ∷ before) any = grind (arith, nat_tests, some_phase before)

record IsLast (phases : List (List Statement)) : Type 0 where
  front : List (List Statement)
  last : List Statement
  is : phases ≡ front ++ last ∷ []

last_of : (phases : List (List Statement)) → 0 < length phases → IsLast phases
last_of [] some = absurd (omega (arith, some))
last_of (phase ∷ []) some = record { front = []; last = phase; is = refl }
last_of (phase ∷ next ∷ later) some =
    let rest = last_of (next ∷ later) (omega arith) in
    record { front = phase ∷ rest.front; last = rest.last; is = rw rest.is refl }

abbrev pub Grows : (old new : List (List Statement)) → Statement → Type 0
Grows old new statement =
    (front : List (List Statement)) (last : List Statement) → old ≡ front ++ last ∷ [] →
    new ≡ front ++ (last ++ statement ∷ []) ∷ []

pub statement_taken :
    (old : Reading) (statement : Statement) (phases : Vec (Vec Statement Global) Global) (pulses : ℕ) →
    pulses ≡ pulses_of_event statement.event → Grows (lists_of old.phases.items) (lists_of phases.items) statement →
    Takes old (Ask statement) (record old {
      statements = old.statements + 1;
      pulses = old.pulses + pulses;
      phases = phases;
    })
statement_taken old statement phases pulses asked grows items is least =
    let none : NoReason items (Ask statement) = no_reason items (Ask statement) least in
    let limits = within_limits (Ask statement ∷ items) none.limits in
    let count = length-map old.phases.items list_of in
    let some : 0 < length (lists_of old.phases.items) =
    omega (arith, is.count, some_phase items (grind (arith, nat_tests))) in
    let last = last_of (lists_of old.phases.items) some in
    let longer : lists_of phases.items ≡ last.front ++ (last.last ++ statement ∷ []) ∷ [] =
    grows last.front last.last last.is in
    let kept = length-map phases.items list_of in
    let many : length (lists_of phases.items) ≡ length (lists_of old.phases.items) =
    grind (arith, length-append, last.is) in
    let total = sum_by-cons pulses_of (Ask statement) items in
    let spelled : reverse (filter (λ item. not (is_setup item)) (Ask statement ∷ items))
    ≡ phase_items (lists_of phases.items) =
    reverse_more (Ask statement) (filter (λ item. not (is_setup item)) items)
    ∙ rw (is.phases, last.is, longer, statements_more last.front last.last statement) refl in
    grind (arith, nat_tests, limits.statements)
