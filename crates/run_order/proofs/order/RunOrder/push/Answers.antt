use Rattle.std.proofs.Common.{rules, ap, arith, vec_capacity}
use Rattle.run_order.specs.Room.{Order}
use Rattle.run_order.proofs.Counts.{number_fits, order_more}
use Rattle.run_order.proofs.order.RunOrder.push.Goals as goal

pub overflow_add-self : goal.overflow_add-self
overflow_add-self c =
    let fits = number_fits c.args.actor c.from.result c.from.ensures c.requires.actor c.self.invariant in
    omega (arith, fits, ap (λ (o : Order). o.spare) c.self.view_is, c.requires.room)

pub invariant_of-self : goal.invariant_of-self
invariant_of-self c =
    let old = c.self.inside in let is = c.self.view_is in
    let more = order_more old.entries.items c.push.new.self.items (vec_capacity c.push.new.self) c.args.actor
    c.from.result c.args.entry c.args.bus c.self.invariant (search rules) c.push.ensures.capacity (search rules)
    c.from.ensures c.requires.actor c.requires.own c.requires.within in
    grind (arith, is, more, c.requires)
