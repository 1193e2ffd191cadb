use Rattle.std.proofs.Common.{reverse, ◌∙◌, ap, arith}
use Rattle.run_order.specs.Room.{Order}
use Rattle.run_order.proofs.BusActors.{actors_next, all_actors}
use Rattle.run_order.proofs.order.RunOrder.actors.Goals as goal

pub loop-entry-preserved : goal.loop-entry-preserved
loop-entry-preserved c = λ bus.
    actors_next bus c.deref-entry-items.result.now c.loop-entry.entry-index _ _ _ _ (c.loop-entry.invariant bus)
    c.loop-entry-test.true (c.actor.ensures.actor bus) c.in_ok-push.ensures.items

pub returns : goal.returns
returns c =
    let l = c.loop-entry in
    let turned = ap reverse c.deref-entry-items.ensures.value ∙ ap (λ (o : Order). o.entries) c.self.view_is in
    record {
      actors = λ bus. all_actors bus c.deref-entry-items.result.now c.args.self.now.entries l.entry-index l.actors.items
          (l.invariant bus) (omega (arith, c.loop-entry-test.false, l.auto.entry-index-end)) turned;
    }
