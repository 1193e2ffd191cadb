use Rattle.std.proofs.Common.{◌≡◌, Err, sym, ap, ◌∙◌, rules}
use Rattle.bus_master.specs.Transfer.{TransferPlace, region_found}
use Rattle.bus_master.proofs.StepLemmas.{stands_skipped, ready_is, found_in_use, found_used_up}
use Rattle.bus_master.proofs.under_way.UnderWay.make_ready.Goals as goal

pub returns-in_err-test_sector-clause-ready : goal.returns-in_err-test_sector-clause-ready
returns-in_err-test_sector-clause-ready c = λ setup bytes moving of is.
    let passed : c.from_residual.result ≡ Err c.in_err-test_sector.field-0.0 = search rules in
    rw (passed, ready_is is setup bytes c.args.lba (sym c.is_over.ensures.over ∙ c.if-is_over.false))
    (stands_skipped (region_found setup bytes) (c.in_err-test_sector.ensures.tested moving is))

pub returns-in_err-read_descriptor-clause-ready : goal.returns-in_err-read_descriptor-clause-ready
returns-in_err-read_descriptor-clause-ready c = λ setup bytes moving of is.
    let passed : c.from_residual-in_err-read_descriptor.result ≡ Err c.in_err-read_descriptor.field-0.0 =
    search rules in
    let on = c.in_ok-test_sector.ensures.tested moving is in
    let used = sym (ap (λ (p : TransferPlace). p.left) c.self.view_is) ∙ c.if-self-eq0.true in
    rw (
      passed,
      ready_is is setup bytes c.args.lba (sym c.is_over.ensures.over ∙ c.if-is_over.false),
      found_used_up on setup bytes used,
    ) (c.in_err-read_descriptor.ensures.read setup bytes _ of on)

pub returns-in_ok-read_descriptor-clause-ready : goal.returns-in_ok-read_descriptor-clause-ready
returns-in_ok-read_descriptor-clause-ready c = λ setup bytes moving of is.
    let on = c.in_ok-test_sector.ensures.tested moving is in
    let used = sym (ap (λ (p : TransferPlace). p.left) c.self.view_is) ∙ c.if-self-eq0.true in
    rw (
      ready_is is setup bytes c.args.lba (sym c.is_over.ensures.over ∙ c.if-is_over.false),
      found_used_up on setup bytes used,
    ) (c.in_ok-read_descriptor.ensures.read setup bytes _ of on)

pub returns-else-self-eq0-clause-ready : goal.returns-else-self-eq0-clause-ready
returns-else-self-eq0-clause-ready c = λ setup bytes moving of is.
    let on = c.in_ok-test_sector.ensures.tested moving is in
    rw (
      ready_is is setup bytes c.args.lba (sym c.is_over.ensures.over ∙ c.if-is_over.false),
      found_in_use on setup bytes
          (λ left. c.if-self-eq0.false (ap (λ (p : TransferPlace). p.left) c.self.view_is ∙ left)),
    ) on
