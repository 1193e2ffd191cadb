use Rattle.std.proofs.Common.{rules, vec_capacity}
use Rattle.run_order.proofs.Counts.{order_reserved}
use Rattle.run_order.proofs.order.RunOrder.reserve.Goals as goal

pub invariant_of-self-then-n-self : goal.invariant_of-self-then-n-self
invariant_of-self-then-n-self c =
    order_reserved c.self.inside.entries.items c.reserve.new.self.items (vec_capacity c.reserve.new.self) c.args.n
    c.self.invariant c.reserve.ensures.items (search rules) (search rules)
