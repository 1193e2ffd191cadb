use Rattle.std.proofs.Common.{◌≡◌, ◌<◌, ◌≤◌, ◌-◌, ℕ, List, length, get_or, map, drop, refl, sym, ◌∙◌, ap, arith, ◌+◌}
use Rattle.board_prelude.proofs.{get_or-drop, length-drop, length-set, Entry}
use Rattle.run_order.specs.declared.done.Done.{Done}
use Rattle.run_order.specs.Over.{nowhere, over}
use Rattle.run_order.specs.Room.{Order}
use Rattle.run_order.proofs.BusActors.{actor_below, later_actor, later_callers, later_length}
use Rattle.run_order.proofs.Counts.{no_more_looks}
use Rattle.run_order.proofs.Settled.{left_is_settled, looked_again, next_placed, placed_last, but_one}
use Rattle.run_order.proofs.order.RunOrder.place_all.Goals as goal

pub loop-i-init : goal.loop-i-init
loop-i-init g c =
    let actors : List ℕ = g.A.Actors.actors c.args.actors.now in
    let start = c.args.self.now.bus in
    let old : List (List Done) = map (λ done. done.now) c.args.rests.now in
    let looked = c.all_looks.ensures in
    let bus_is : c.self.inside.bus ≡ start = ap (λ (o : Order). o.bus) c.self.view_is in
    record {
      placed = λ bus are. rw (looked.left, looked.placed bus)
          (looked_again c.args.version (drop start bus) old (over bus c.args.self.now.entries));
      fits = omega (arith, looked.room, c.requires.room, bus_is, c.len.ensures.length, length-drop start actors);
      settled = rw looked.left (left_is_settled c.args.version old);
      bus = omega (arith, looked.bus);
      keeps = looked.keeps;
    }

pub slice_copy_out-noted : goal.slice_copy_out-noted
slice_copy_out-noted g c =
    let below = actor_below (g.A.Actors.actors c.args.actors.now) c.self.inside.bus c.args.self.now.bus c.loop-i.i
    (length c.args.rests.now) c.actor-actor.result (ap (λ (o : Order). o.bus) c.self.view_is) c.requires.callers
    (omega (arith, c.loop-i-test.true, c.len.ensures.length)) c.actor-actor.ensures.actor in
    omega (arith, below, c.from-place.ensures, c.loop-i.auto.rests)

pub slice_copy_out-without_first : goal.slice_copy_out-without_first
slice_copy_out-without_first g c =
    let below = actor_below (g.A.Actors.actors c.args.actors.now) c.self.inside.bus c.args.self.now.bus c.loop-i.i
    (length c.args.rests.now) c.actor-actor.result (ap (λ (o : Order). o.bus) c.self.view_is) c.requires.callers
    (omega (arith, c.loop-i-test.true, c.len.ensures.length)) c.actor-actor.ensures.actor in
    omega (arith, below, c.from-place.ensures, c.loop-i.auto.rests)

pub bounds-rests-place : goal.bounds-rests-place
bounds-rests-place g c =
    let below = actor_below (g.A.Actors.actors c.args.actors.now) c.self.inside.bus c.args.self.now.bus c.loop-i.i
    (length c.args.rests.now) c.actor-actor.result (ap (λ (o : Order). o.bus) c.self.view_is) c.requires.callers
    (omega (arith, c.loop-i-test.true, c.len.ensures.length)) c.actor-actor.ensures.actor in
    omega (arith, below, c.from-place.ensures, c.loop-i.auto.rests)

pub push_bus-requires-clause-actor : goal.push_bus-requires-clause-actor
push_bus-requires-clause-actor g c =
    let below = actor_below (g.A.Actors.actors c.args.actors.now) c.self.inside.bus c.args.self.now.bus c.loop-i.i
    (length c.args.rests.now) c.actor-actor.result (ap (λ (o : Order). o.bus) c.self.view_is) c.requires.callers
    (omega (arith, c.loop-i-test.true, c.len.ensures.length)) c.actor-actor.ensures.actor in
    omega (arith, below, c.requires.few)

pub next_looks-requires-clause-actor : goal.next_looks-requires-clause-actor
next_looks-requires-clause-actor g c =
    let below = actor_below (g.A.Actors.actors c.args.actors.now) c.self.inside.bus c.args.self.now.bus c.loop-i.i
    (length c.args.rests.now) c.actor-actor.result (ap (λ (o : Order). o.bus) c.self.view_is) c.requires.callers
    (omega (arith, c.loop-i-test.true, c.len.ensures.length)) c.actor-actor.ensures.actor in
    let size = length-set c.loop-i.rests c.from-place.result c.without_first.result in
    omega (arith, below, size, c.loop-i.auto.rests)

pub next_looks-requires-clause-room : goal.next_looks-requires-clause-room
next_looks-requires-clause-room g c =
    let l = c.loop-i in
    let less : l.i < length (g.A.Actors.actors c.args.actors.now) - c.self.inside.bus =
    omega (arith, c.loop-i-test.true, c.len.ensures.length) in
    let fewer = no_more_looks (λ done. done.now) l.rests c.from-place.result c.without_first.result _
    c.without_first.ensures.rest in
    omega (arith, fewer, l.invariant.fits, less, c.len.ensures.length, c.push_bus.ensures.spare)

pub next_looks-requires-clause-settled : goal.next_looks-requires-clause-settled
next_looks-requires-clause-settled g c =
    but_one (λ done. done.now) c.loop-i.rests c.without_first.result c.loop-i.version c.noted-version.result
    c.from-place.result _ c.loop-i.invariant.settled c.from-place.ensures

pub loop-i-preserved : goal.loop-i-preserved
loop-i-preserved g c =
    let l = c.loop-i in let actors : List ℕ = g.A.Actors.actors c.args.actors.now in
    let start = c.args.self.now.bus in
    let bus_is : c.self.inside.bus ≡ start = ap (λ (o : Order). o.bus) c.self.view_is in
    let less : l.i < length actors - c.self.inside.bus = omega (arith, c.loop-i-test.true, c.len.ensures.length) in
    let size : length l.rests ≡ length c.args.rests.now = omega (arith, l.auto.rests) in
    let fewer = no_more_looks (λ done. done.now) l.rests c.from-place.result c.without_first.result _
    c.without_first.ensures.rest in
    let looked = c.next_looks.ensures in
    record {
      placed = λ bus are.
          let later : List Entry = drop start bus in
          let own = later_actor actors bus c.self.inside.bus start l.i c.actor-actor.result bus_is are less
          c.actor-actor.ensures.actor in
          let at : get_or bus l.self.bus nowhere ≡ get_or later l.i nowhere =
          rw (l.invariant.bus, get_or-drop start bus l.i nowhere) refl in
          let entered = next_placed l.version later (λ done. done.now) l.rests c.without_first.result _
          c.noted-version.result c.from-place.result (over bus c.push_bus.new.self.entries) nowhere l.invariant.settled
          own.0 (rw size (later_callers actors bus start (length c.args.rests.now) are c.requires.callers))
          (c.from-place.ensures ∙ own.1) c.noted-version.ensures.noted c.without_first.ensures.rest
          (rw (own.1, at) at (c.push_bus.ensures.pushed bus)) in
          rw (looked.left, looked.placed bus)
          (looked_again c.noted-version.result (drop (l.i + 1) later) _ (over bus c.push_bus.new.self.entries)
          ∙ (entered ∙ l.invariant.placed bus are));
      fits = omega (arith, looked.room, fewer, l.invariant.fits, c.push_bus.ensures.spare, less, c.len.ensures.length);
      settled = rw looked.left (left_is_settled c.noted-version.result _);
      bus = omega (arith, looked.bus, c.push_bus.ensures.bus, l.invariant.bus);
      keeps = looked.keeps ∙ (c.push_bus.ensures.keeps ∙ l.invariant.keeps);
    }

pub returns-clause-placed : goal.returns-clause-placed
returns-clause-placed g c = λ bus are.
    let l = c.loop-i in let start = c.args.self.now.bus in
    let actors : List ℕ = g.A.Actors.actors c.args.actors.now in
    let bus_is : c.self.inside.bus ≡ start = ap (λ (o : Order). o.bus) c.self.view_is in
    let size = later_length actors bus start are in
    let all : length (drop start bus) ≤ l.i =
    omega (arith, c.loop-i-test.false, c.len.ensures.length, bus_is, size, l.auto.i-end) in
    sym (placed_last l.version l.i (drop start bus) (map (λ done. done.now) l.rests) (over bus l.self.entries)
    l.invariant.settled all) ∙ l.invariant.placed bus are
