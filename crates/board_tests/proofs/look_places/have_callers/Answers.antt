use Rattle.std.proofs.Common.{◌<◌, ◌≤◌, ℕ, List, All, get_or, length, take, subst, sym, arith}
use Rattle.board_prelude.proofs.{All-push, take_all, take_more}
use Rattle.board_tests.proofs.look_places.have_callers.Goals as goal

pub loop-i-preserved : goal.loop-i-preserved
loop-i-preserved g c =
    let actors : List ℕ = g.A.Actors.actors c.args.actors.now in let i : ℕ = c.loop-i.i in
    let most : ℕ = length c.args.works.now.items in
    let less : i < length actors = omega (arith, c.loop-i-test.true, c.len-i-end.ensures.length) in
    let below : get_or actors i 0 < most =
    omega (arith, c.actor.ensures.actor 0, c.from.ensures, c.if-from-count.false, c.len-count.ensures.value) in
    subst (λ (xs : List ℕ). All (λ actor. actor < most) xs) (sym (take_more actors i 0 less))
    (All-push (λ (actor : ℕ). actor < most) (take i actors) (get_or actors i 0) c.loop-i.invariant below)

pub returns : goal.returns
returns g c = record {
  callers = λ true.
      let actors : List ℕ = g.A.Actors.actors c.args.actors.now in let i : ℕ = c.loop-i.i in
      let most : ℕ = length c.args.works.now.items in
      let all : length actors ≤ i = omega (arith, c.loop-i-test.false, c.len-i-end.ensures.length) in
      subst (λ (xs : List ℕ). All (λ actor. actor < most) xs) (take_all i actors all) c.loop-i.invariant;
}
