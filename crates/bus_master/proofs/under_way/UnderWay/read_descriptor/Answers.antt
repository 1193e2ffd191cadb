use Rattle.std.proofs.Common.{◌≡◌, Err, sym, rules, arith}
use Rattle.bus_master.proofs.StepLemmas.{descriptor_stands}
use Rattle.board_prelude.proofs.{nat_tests}
use Rattle.bus_master.specs.Transfer.{answered}
use Rattle.bus_master.proofs.under_way.UnderWay.read_descriptor.Goals as goal

pub returns-in_err-base-clause-read : goal.returns-in_err-base-clause-read
unfolding answered
returns-in_err-base-clause-read c = λ setup bytes moving of is.
    let passed : c.from_residual.result ≡ Err c.in_err-base.field-0.0 = search rules in
    let view = sym c.self.view_is in
    rw (passed, view) (grind (arith, nat_tests, c.in_err-base.ensures.end setup bytes of))

pub returns-in_err-count-clause-read : goal.returns-in_err-count-clause-read
unfolding answered
returns-in_err-count-clause-read c = λ setup bytes moving of is.
    let passed : c.from_residual-in_err-count.result ≡ Err c.in_err-count.field-0.0 = search rules in
    let view = sym c.self.view_is in
    rw (passed, view)
    (grind (arith, nat_tests, c.in_ok-base.ensures.end setup bytes of, c.in_err-count.ensures.end setup bytes of))

pub returns-clause-read : goal.returns-clause-read
returns-clause-read c = λ setup bytes moving of is.
    let view = sym c.self.view_is in
    descriptor_stands (rw view at is) _ _ _ _ _ of c.self.invariant.table (rw view at c.take_region.ensures.taken)
    (c.in_ok-base.ensures.end setup bytes of) (c.in_ok-count.ensures.end setup bytes of)
    (c.in_ok-base.ensures.value setup bytes of) (c.in_ok-count.ensures.value setup bytes of)
