-- The orders in which a script may run: complete, begun, and how a begun history goes on.
use Rattle.std.proofs.Common.{◌≡◌, ℕ, inl, inr, List, [], ◌∷◌, ◌++◌, length, take, drop, refl, sym, ◌∙◌, ap, subst}
use Rattle.std.proofs.Common.{arith, append_assoc}
use Rattle.std.proofs.Math.Seq.{take-append_seam, drop-append_seam}
use Rattle.std.proofs.lemmas.List.{take-append-le, drop-append-le, length-append, take_all, map-append, append-nil}
use Rattle.std.proofs.lemmas.List.{reverse-append}
use Rattle.std.proofs.lemmas.List.Elements.{filter-append}
use Rattle.std.proofs.lemmas.Bool.{cases_lt}
use Rattle.board_spec.specs.declared.event.Event.{Event}
use Rattle.board_spec.specs.declared.event.Entry.{Entry}
use Rattle.board_spec.specs.declared.event.Statement.{Statement}
use Rattle.board_spec.specs.Orders.{statement_of, statements_of, events_by, BeginsWith, IsWholePhase, IsFrontOfPhase}
use Rattle.board_spec.specs.Orders.{HasPhases, HasPhasesSoFar}
use Rattle.board_spec.specs.OrderLaws.{in_file_order, ReplayIsComplete, CompleteIsBegun, FrontIsBegun}

-- ---- complete

file_order : (phases : List (List Statement)) → HasPhases phases (in_file_order phases)
file_order [] = refl
file_order (phase ∷ later) =
    rw (take-append_seam phase (in_file_order later), drop-append_seam phase (in_file_order later))
    (record { size = refl; each = λ actor. refl }, file_order later)

pub replay_is_complete : ReplayIsComplete
replay_is_complete setup phases history replay = subst (HasPhases phases) (sym replay.same) (file_order phases)

-- ---- begun

so_far : (phases : List (List Statement)) (statements : List Statement) → HasPhases phases statements →
    HasPhasesSoFar phases statements
so_far [] statements whole = whole
so_far (phase ∷ later) statements whole = inr (whole.0, so_far later (drop (length phase) statements) whole.1)

pub complete_is_begun : CompleteIsBegun
complete_is_begun phases history complete = so_far phases (statements_of history) complete

-- ---- one statement more

pub events-append : (actor : ℕ) (first later : List Statement) →
    events_by actor (first ++ later) ≡ events_by actor first ++ events_by actor later
events-append actor first later = simp (filter-append, map-append)

pub statements-append :
    (more before : List Entry) → statements_of (more ++ before) ≡ statements_of before ++ statements_of more
statements-append more before = simp (reverse-append, map-append)

pub statements-newest : (entry : Entry) (before : List Entry) →
    statements_of (entry ∷ before) ≡ statements_of before ++ statement_of entry ∷ []
statements-newest entry before = statements-append (entry ∷ []) before

shorter_front : (longer first later : List Event) → BeginsWith longer (first ++ later) → BeginsWith longer first
shorter_front longer first later begins =
    record { rest = later ++ begins.rest; whole = begins.whole ∙ append_assoc first later begins.rest }

shorter_phase :
    (phase first later : List Statement) → IsFrontOfPhase phase (first ++ later) → IsFrontOfPhase phase first
shorter_phase phase first later front = record {
  size = omega (arith, length-append first later, front.size);
  each = λ actor. shorter_front (events_by actor phase) (events_by actor first) (events_by actor later)
      (subst (BeginsWith (events_by actor phase)) (events-append actor first later) (front.each actor));
}

pub whole_is_front : (phase : List Statement) (part : List Statement) → IsWholePhase phase part →
    IsFrontOfPhase phase part
whole_is_front phase part whole = record {
  size = omega (arith, whole.size);
  each = λ actor. record { rest = []; whole = sym (whole.each actor) ∙ sym (append-nil (events_by actor part)) };
}

shorter_so_far : (phases : List (List Statement)) (statements : List Statement) (last : Statement) →
    HasPhasesSoFar phases (statements ++ last ∷ []) → HasPhasesSoFar phases statements
shorter_so_far [] statements last whole = absurd (omega (arith, ap length whole, length-append statements (last ∷ [])))
shorter_so_far (phase ∷ later) statements last (inl front) = inl (shorter_phase _ _ _ front)
shorter_so_far (phase ∷ later) statements last (inr whole) =
    elim (cases_lt (length statements) (length phase)) [
      | inl short ↦
          let all : take (length phase) (statements ++ last ∷ []) ≡ statements ++ last ∷ [] =
          take_all (length phase) _ (omega (arith, length-append statements (last ∷ []))) in
          inl (shorter_phase _ _ _ (whole_is_front _ _ (subst (IsWholePhase phase) all whole.0)))
      | inr full ↦
          inr (
            subst (IsWholePhase phase) (take-append-le (length phase) statements (last ∷ []) full) whole.0,
            shorter_so_far later (drop (length phase) statements) last
                (subst (HasPhasesSoFar later) (drop-append-le (length phase) statements (last ∷ []) full) whole.1),
          )
    ]

pub front_is_begun : FrontIsBegun
front_is_begun phases entry before begun =
    shorter_so_far _ _ _ (subst (HasPhasesSoFar phases) (statements-newest entry before) begun)
