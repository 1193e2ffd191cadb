use Rattle.run_order.proofs.order.RunOrder.push_look.Goals as goal

pub returns-clause-pushed : goal.returns-clause-pushed
returns-clause-pushed c = λ bus. rw (c.push-2.ensures.pushed, c.next_number.ensures.number bus)
