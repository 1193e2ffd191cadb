use Rattle.std.proofs.Common.{ap}
use Rattle.run_order.specs.Room.{Order}
use Rattle.run_order.proofs.order.RunOrder.push_bus.Goals as goal

pub returns-clause-pushed : goal.returns-clause-pushed
returns-clause-pushed c = λ bus.
    rw (c.push.ensures.pushed, c.next_number-seq.ensures.number bus, ap (λ (o : Order). o.bus) c.self.view_is)
