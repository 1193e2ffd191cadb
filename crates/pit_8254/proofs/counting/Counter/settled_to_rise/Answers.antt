use Rattle.std.proofs.Common.{rules, ◌≡◌, None, true, false, arith}
use Rattle.device_spec.specs.Pit.{is_periodic}
use Rattle.std.proofs.lemmas.Bool.Decides.{nat_tests}
use Rattle.pit_8254.proofs.Periods.{period_rises}
use Rattle.pit_8254.proofs.Rising.{never_later, rises_after, edge_rises, edge_passes, never, begins_period, all_quiet}
use Rattle.pit_8254.proofs.counting.Counter.settled_to_rise.Goals as goal

pub returns-then-near-clause-rise : goal.returns-then-near-clause-rise
returns-then-near-clause-rise g c = edge_rises c.in_ok-near.ensures.edge c.if-near.true

pub returns-in_err-far-clause-rise : goal.returns-in_err-far-clause-rise
returns-in_err-far-clause-rise g c =
    let none : c.from_residual-in_err-far.result ≡ None = search rules in
    rw none (never_later (edge_passes c.in_ok-near.ensures.edge c.if-near.false) c.in_err-far.ensures.edge)

pub returns-then-far-clause-rise : goal.returns-then-far-clause-rise
returns-then-far-clause-rise g c =
    rises_after (edge_passes c.in_ok-near.ensures.edge c.if-near.false)
    (edge_rises c.in_ok-far.ensures.edge c.if-far.true)

pub returns-then-self-clause-rise : goal.returns-then-self-clause-rise
returns-then-self-clause-rise g c =
    let begins = begins_period c.in_ok-near.ensures.edge (search rules) c.requires.settled (search rules) in
    let value : c.self-2.inside.in_use ≡ c.next_edge.new.self.in_use = search rules in
    rw value (rises_after (edge_passes c.in_ok-near.ensures.edge c.if-near.false) (period_rises begins))

pub returns-clause-rise : goal.returns-clause-rise
returns-clause-rise g c =
    let low : is_periodic c.args.self.now.mode ≡ true → c.next_edge.new.self.out ≡ false =
    grind (arith, nat_tests, c.else-periodic.branch) in
    never_later (edge_passes c.in_ok-near.ensures.edge c.if-near.false)
    (never_later (edge_passes c.in_ok-far.ensures.edge c.if-far.false)
    (never _ _ c.next_edge-2.ensures.element
    (all_quiet c.in_ok-near.ensures.edge c.in_ok-far.ensures.edge c.if-far.false low c.requires.settled)))
