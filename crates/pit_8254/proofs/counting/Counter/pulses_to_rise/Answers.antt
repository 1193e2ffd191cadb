use Rattle.std.proofs.Common.{rules, ◌≡◌, ◌+◌, Some, None, refl, subst, arith}
use Rattle.device_spec.specs.Pit.{CounterState}
use Rattle.pit_8254.specs.NextRise.{IsFirstRise}
use Rattle.pit_8254.proofs.Rising.{first_pulse, never_later, rises_after}
use Rattle.pit_8254.proofs.counting.Counter.pulses_to_rise.Goals as goal

pub returns-then-run-gt0-clause-rise : goal.returns-then-run-gt0-clause-rise
returns-then-run-gt0-clause-rise g c =
    subst (λ (d : CounterState). IsFirstRise c.args.gate d (Some 1)) c.copy-counter.ensures.copy
    ((first_pulse c.step-run.ensures.part refl refl c.step-run.ensures.left).0 c.if-run-gt0.true)

pub returns-in_err-more-clause-rise : goal.returns-in_err-more-clause-rise
returns-in_err-more-clause-rise g c =
    let none : c.from_residual.result ≡ None = search rules in
    let first = first_pulse c.step-run.ensures.part refl refl c.step-run.ensures.left in
    rw none (subst (λ (d : CounterState). IsFirstRise c.args.gate d None) c.copy-counter.ensures.copy
    (never_later (first.1 (omega (arith, c.if-run-gt0.false))) c.in_err-more.ensures.rise))

pub returns-clause-rise : goal.returns-clause-rise
returns-clause-rise g c =
    let first = first_pulse c.step-run.ensures.part refl refl c.step-run.ensures.left in
    subst (λ (d : CounterState). IsFirstRise c.args.gate d (Some (1 + c.in_ok-more.more))) c.copy-counter.ensures.copy
    (rises_after (first.1 (omega (arith, c.if-run-gt0.false))) c.in_ok-more.ensures.rise)
