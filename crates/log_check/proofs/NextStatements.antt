-- The phases that are done, and what follows them: a processor has one statement that may come next.
use Rattle.std.proofs.Common.{◌≡◌, ◌<◌, ◌≤◌, List, [], ◌∷◌, ◌++◌, length, drop, inl, inr, length-append, arith, ℕ, All}
use Rattle.std.proofs.Common.{subst, ap, append_assoc, get_or, add-one}
use Rattle.board_prelude.proofs.{take-append-le, drop-append-le, length-take, length-drop, take_all, HasPhases}
use Rattle.board_prelude.proofs.{HasPhasesSoFar, whole_is_front, BeginsWith, common_steps, nat_tests, take-append_seam}
use Rattle.board_prelude.proofs.{drop-append_seam, cases_lt, drop-cons, append_cancel_left, All-head, All-tail}
use Rattle.board_prelude.proofs.{All-drop, events_by, in_file_order}
use Rattle.board_prelude.specs.{Statement}
use Rattle.std.proofs.lemmas.List.Elements.{All-take}
use Rattle.board_spec.proofs.OrderLawProofs.{events-append}
use Rattle.std.proofs.lemmas.Option.{slice_get-get_or}
use Rattle.log_check.specs.Phases.{IsTyped}
use Rattle.log_check.specs.Fronts.{IsNextOf}

-- ---- phases that are done

pub done_size : (done : List (List Statement)) (before : List Statement) → HasPhases done before →
    length before ≡ length (in_file_order done)
done_size [] before whole = grind (arith, nat_tests)
done_size (phase ∷ done) before whole =
    grind (arith, nat_tests, length-append, length-take, length-drop, done_size done (drop (length phase) before))

pub begun_joined : (done later : List (List Statement)) (before tail : List Statement) → HasPhases done before →
    HasPhasesSoFar later tail → HasPhasesSoFar (done ++ later) (before ++ tail)
begun_joined [] later before tail whole begun = grind (arith, nat_tests)
begun_joined (phase ∷ done) later before tail whole begun =
    let rest = begun_joined done later (drop (length phase) before) tail in
    grind (arith, nat_tests, take-append-le, drop-append-le, length-take, rest)

past_phase : (phase : List Statement) (later : List (List Statement)) (before tail : List Statement) →
    length phase ≤ length before → 0 < length tail → HasPhasesSoFar (phase ∷ later) (before ++ tail) →
    HasPhasesSoFar later (drop (length phase) before ++ tail)
past_phase phase later before tail long some begun = grind (arith, nat_tests, drop-append-le, length-append)

pub begun_left : (done later : List (List Statement)) (before tail : List Statement) → HasPhases done before →
    0 < length tail → HasPhasesSoFar (done ++ later) (before ++ tail) → HasPhasesSoFar later tail
begun_left [] later before tail whole some begun = grind (arith, nat_tests)
begun_left (phase ∷ done) later before tail whole some begun =
    let rest = begun_left done later (drop (length phase) before) tail in
    grind (arith, nat_tests, drop-append-le, length-append, length-take, rest)

-- ---- the events of a processor

-- the next statement of a processor in a phase
pub found : (phase : List Statement) (start actor place : ℕ) (other : Statement) → place < length phase →
    (get_or phase place other).actor ≡ actor → events_by actor (drop start phase) ≡ events_by actor (drop place phase) →
    IsNextOf phase start actor place
found phase start actor place other within own passed =
    grind (arith, nat_tests, common_steps, slice_get-get_or, drop-cons, add-one)

-- a processor that has statements fits its type
pub small_actor : (actor : ℕ) (phase : List Statement) → All IsTyped phase → 0 < length (events_by actor phase) →
    actor < 256
small_actor actor [] typed some = absurd (omega arith)
small_actor actor (first ∷ later) typed some =
    let here = (All-head IsTyped first later typed).actor in
    grind (arith, nat_tests, small_actor actor later (All-tail IsTyped first later typed))

-- ---- the next statement of a front

-- the last statement of a front is the next of its processor's
abbrev pub GoesFirst : (phase part : List Statement) → Statement → Type 0
GoesFirst phase part last =
    BeginsWith (events_by last.actor phase) (events_by last.actor part ++ last.event ∷ [])

pub goes_first : (phase : List Statement) (later : List (List Statement)) (part : List Statement) (last : Statement) →
    length part < length phase → HasPhasesSoFar (phase ∷ later) (part ++ last ∷ []) → GoesFirst phase part last
goes_first phase later part last short begun =
    let more = events-append last.actor part (last ∷ []) in
    grind (arith, nat_tests, whole_is_front, take_all, length-append, more)

same_first : (phase part : List Statement) (left right : Statement) → GoesFirst phase part left →
    GoesFirst phase part right → left.actor ≡ right.actor → left.event ≡ right.event
same_first phase part left right l r same = grind (arith, nat_tests, append_cancel_left, append_assoc)

pub all_parts :
    {X : Type 0} (P : X → Type 0) (first later : List X) → All P (first ++ later) → All P first × All P later
all_parts P first later all = (
  subst (All P) (take-append_seam first later) (All-take P (length first) (first ++ later) all),
  subst (All P) (drop-append_seam first later) (All-drop P (length first) (first ++ later) all),
)

-- after the same statements a processor has one statement, and is one of the script's
pub one_next : (phases : List (List Statement)) (statements : List Statement) (left right : Statement) →
    All IsTyped (in_file_order phases) → HasPhasesSoFar phases (statements ++ left ∷ []) →
    HasPhasesSoFar phases (statements ++ right ∷ []) →
    (left.actor < 256) × (right.actor < 256) × (left.actor ≡ right.actor → left.event ≡ right.event)
one_next [] statements left right typed l r =
    absurd (omega (arith, ap length l, length-append statements (left ∷ [])))
one_next (phase ∷ later) statements left right typed l r =
    let parts = all_parts IsTyped phase (in_file_order later) typed in
    elim (cases_lt (length statements) (length phase)) [
      | inl short ↦
          let one = goes_first phase later statements left short l in
          let two = goes_first phase later statements right short r in (
            small_actor left.actor phase parts.0 (rw one.whole (simp length-append (omega arith))),
            small_actor right.actor phase parts.0 (rw two.whole (simp length-append (omega arith))),
            same_first phase statements left right one two,
          )
      | inr long ↦
          one_next later (drop (length phase) statements) left right parts.1
          (past_phase phase later statements (left ∷ []) long (omega arith) l)
          (past_phase phase later statements (right ∷ []) long (omega arith) r)
    ]
