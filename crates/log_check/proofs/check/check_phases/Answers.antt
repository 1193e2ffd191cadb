use Rattle.std.proofs.Common.{ℕ, ◌+◌, [], List, length, take, drop, refl, ap, ◌∙◌, subst, arith}
use Rattle.board_prelude.proofs.{common_steps, nat_tests, take_all, IsInRange, log_text, statements_of, IsCompleteFor}
use Rattle.board_prelude.specs.{Statement}
use Rattle.script_spec.specs.Phases.{lists_of}
use Rattle.log_check.specs.Phases.{IsTyped}
use Rattle.log_check.specs.Walks.{WalkPlace}
use Rattle.log_check.proofs.LineSteps.{handed_on}
use Rattle.log_check.proofs.PhaseLists.{phases_cut, phases_more, length_more, all_in_phase}
use Rattle.log_check.proofs.check.check_phases.Goals as goal

-- a place between phases
abbrev between : (version : ℕ) → List ℕ → (done later : List (List Statement)) → WalkPlace
between version bytes done later = record { version = version; bytes = bytes; done = done; later = later; count = 0 }

pub loop-phase-init : goal.loop-phase-init
loop-phase-init g c = grind (arith, nat_tests, common_steps, statements_of, log_text)

pub check_phase-requires-clause-in_range : goal.check_phase-requires-clause-in_range
check_phase-requires-clause-in_range g c =
    rw (c.loop-phase.invariant.setup, c.deref.ensures.value)
    (all_in_phase _ _ _ c.loop-phase-test.true c.phase-item.is
    (λ statement. IsInRange (g.B.Steps.standing c.args.board.now).setup statement.event) c.requires.in_range)

pub check_phase-requires-clause-typed : goal.check_phase-requires-clause-typed
check_phase-requires-clause-typed g c =
    rw c.deref.ensures.value
    (all_in_phase _ _ _ c.loop-phase-test.true c.phase-item.is IsTyped c.requires.typed)

pub loop-phase-preserved : goal.loop-phase-preserved
loop-phase-preserved g c =
    let l = c.loop-phase in
    let i : ℕ = l.phase-index in
    let before : List (List Statement) = lists_of (take i c.args.phases.now) in
    let more = phases_more _ _ _ c.loop-phase-test.true c.phase-item.is in
    let size = length_more _ _ _ c.loop-phase-test.true c.phase-item.is in
    let same = ap length c.deref.ensures.value in
    record {
      setup = c.check_phase.ensures.setup ∙ l.invariant.setup;
      spare = omega (arith, l.invariant.spare, c.in_ok-left.ensures.spare, size, same);
      count = omega (arith, l.invariant.count, c.in_ok-left.ensures.more, size, same);
      numbers = c.in_ok-left.ensures.numbers;
      complete =
          let walked = c.in_ok-left.ensures.walked (between 0 _ before []) l.invariant.complete refl in
          rw more (rw c.deref.ensures.value at walked.0);
      past = λ version bytes text.
          (c.in_ok-left.ensures.walked (between version bytes before []) l.invariant.complete
          (l.invariant.past version bytes text)).1;
    }

pub returns-in_err-left-clause-walked : goal.returns-in_err-left-clause-walked
returns-in_err-left-clause-walked g c = λ version bytes text.
    let l = c.loop-phase in
    let i : ℕ = l.phase-index in
    let stopped =
    c.in_err-left.ensures.walked
    (between version bytes (lists_of (take i c.args.phases.now)) (lists_of (drop (i + 1) c.args.phases.now)))
    l.invariant.complete (l.invariant.past version bytes text) in
    handed_on c.from_residual.result c.in_err-left.field-0.0 _ _ c.from_residual.ensures.1
    (rw (phases_cut _ _ _ c.loop-phase-test.true c.phase-item.is)
    (rw (l.invariant.setup, c.deref.ensures.value) at stopped))

pub returns-clause-walked : goal.returns-clause-walked
returns-clause-walked g c = λ version bytes text. (
  subst (λ phases. IsCompleteFor (lists_of phases) (g.B.Steps.standing c.loop-phase.board).entries)
      (take_all c.loop-phase.phase-index c.args.phases.now c.loop-phase-test.false) c.loop-phase.invariant.complete,
  c.loop-phase.invariant.past version bytes text,
)
