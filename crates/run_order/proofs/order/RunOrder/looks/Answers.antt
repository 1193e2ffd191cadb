use Rattle.std.proofs.Common.{sym, ◌∙◌, ap, arith, List}
use Rattle.run_order.specs.Over.{over}
use Rattle.run_order.specs.Placing.{with_looks}
use Rattle.board_prelude.proofs.{Entry}
use Rattle.run_order.proofs.order.RunOrder.looks.Goals as goal

pub loop-next-preserved : goal.loop-next-preserved
loop-next-preserved c =
    let l = c.loop-next in let was = l.invariant in let push = c.push_look.ensures in let due = c.in-Some.ensures in
    let placed = λ (bus : List Entry). ap (with_looks c.args.version c.args.actor c.in-Some.next.after.now)
    (push.pushed bus) ∙ (sym (due.places c.args.actor (over bus l.self.entries)) ∙ was.placed bus) in
    grind (arith, was, push, due, placed, c.requires.room)

pub returns-clause-placed : goal.returns-clause-placed
returns-clause-placed c = λ bus. sym (c.in_default.ensures.places c.args.actor (over bus c.loop-next.self.entries))
    ∙ c.loop-next.invariant.placed bus
