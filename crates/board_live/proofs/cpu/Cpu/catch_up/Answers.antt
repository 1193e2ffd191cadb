use Rattle.std.proofs.Common.{refl, rules, arith}
use Rattle.board_live.proofs.CallerTurns.{finds, has_learnt}
use Rattle.std.proofs.lemmas.Bool.Decides.{nat_tests}
use Rattle.board_live.proofs.cpu.Cpu.catch_up.Goals as goal

pub invariant_of-self : goal.invariant_of-self
invariant_of-self g c =
    let cpu = c.args.self.now in let e = c.enter-held.ensures in
    let found = finds cpu c.enter-held.result.value e.begins e.opened e.mine e.part e.meets in
    let passed = cpu.passed in let opens = cpu.opens in
    grind (arith, nat_tests, found, passed, opens, c.leave.ensures, e)

pub returns-clause-seen : goal.returns-clause-seen
returns-clause-seen g c =
    let e = c.enter-held.ensures in
    has_learnt (finds c.args.self.now c.enter-held.result.value e.begins e.opened e.mine e.part e.meets) refl
    (search rules) (search rules) (search rules)
