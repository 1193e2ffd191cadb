use Rattle.std.proofs.Common.{◌<◌, ◌≤◌, ◌∙◌, ℕ, List, length, reverse, ap, arith}
use Rattle.board_prelude.proofs.{take_all}
use Rattle.run_order.specs.Over.{nowhere, over}
use Rattle.run_order.proofs.BusActors.{actor_at, actors_length}
use Rattle.run_order.proofs.Settled.{begin_step}
use Rattle.run_order.proofs.order.RunOrder.begin.Goals as goal

pub loop-i-preserved : goal.loop-i-preserved
loop-i-preserved g c =
    let l = c.loop-i in let actors : List ℕ = g.A.Actors.actors c.args.actors.now in
    let less : l.i < length actors = omega (arith, c.loop-i-test.true, c.len-i-end.ensures.length) in
    record {
      same = λ setup bus are legal. let own = actor_at actors bus l.i c.actor.result are less c.actor.ensures.actor in
          begin_step setup bus l.i nowhere legal own.0 (over bus l.order.entries) (l.invariant.same setup bus are legal)
          _ (rw (own.1, l.invariant.bus) at (c.push_bus.ensures.pushed bus));
      bus = omega (arith, c.push_bus.ensures.bus, l.invariant.bus);
      room = omega (arith, c.push_bus.ensures.spare, l.invariant.room, less);
      most = omega (arith, c.push_bus.ensures.keeps, l.invariant.most);
    }

pub returns-clause-same : goal.returns-clause-same
returns-clause-same g c = λ setup bus are legal.
    let l = c.loop-i in let actors : List ℕ = g.A.Actors.actors c.args.actors.now in
    let all : length bus ≤ l.i =
    omega (arith, c.loop-i-test.false, c.len-i-end.ensures.length, actors_length actors bus are) in
    l.invariant.same setup bus are legal ∙ ap reverse (take_all l.i bus all)
