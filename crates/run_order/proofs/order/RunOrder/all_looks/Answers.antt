use Rattle.std.proofs.Common.{◌≡◌, List, [], map, length, refl, sym, ◌∙◌, arith, inl, inr}
use Rattle.board_prelude.proofs.{Entry, cases_lt, get_or_past, length-map}
use Rattle.run_order.specs.declared.done.Done.{Done}
use Rattle.run_order.specs.Over.{over}
use Rattle.run_order.specs.Settled.{IsSettled}
use Rattle.run_order.proofs.Counts.{one_of}
use Rattle.run_order.proofs.Settled.{look_at, settled}
use Rattle.run_order.proofs.order.RunOrder.all_looks.Goals as goal

pub looks-requires-clause-room : goal.looks-requires-clause-room
looks-requires-clause-room c =
    let l = c.loop-actor in
    let one = one_of (λ done. done.now) l.rests l.actor (record { ref_ptr = (0, 0); now = [] })
    (omega (arith, c.loop-actor-test.true, l.auto.rests)) in
    omega (arith, one, l.invariant.room, c.requires.room)

pub loop-actor-preserved : goal.loop-actor-preserved
loop-actor-preserved c =
    let l = c.loop-actor in let inv = l.invariant in
    let look = λ (bus : List Entry). look_at l.actor l.actor (λ done. done.now) l.rests c.looks.result _ refl
    (omega (arith, c.loop-actor-test.true, l.auto.rests)) inv.settled c.looks.ensures.left
    (c.looks.ensures.placed bus) c.looks.ensures.room in
    record {
      placed = λ bus. (look bus).placed ∙ inv.placed bus;
      left = (look []).left_is ∙ inv.left;
      settled = λ j less. (look []).others j (λ other. inv.settled j (omega (arith, less, other)));
      room = omega (arith, (look []).room, inv.room);
      bus = c.looks.ensures.bus ∙ inv.bus;
      keeps = c.looks.ensures.keeps ∙ inv.keeps;
      version = refl;
    }

pub returns : goal.returns
returns c =
    let l = c.loop-actor in let inv = l.invariant in let rests : List (List Done) = map (λ done. done.now) l.rests in
    let all : length rests ≡ length l.rests = length-map l.rests (λ done. done.now) in
    let so : IsSettled c.args.version rests = λ j. elim (cases_lt j l.actor) [
      | inl less ↦ inv.settled j less
      | inr past ↦ rw (get_or_past rests j [] (omega (arith, past, c.loop-actor-test.false, l.auto.rests, all))) tt
    ] in
    let done = λ (bus : List Entry). settled c.args.version 0 rests (over bus l.self.entries) so in
    let placed = λ (bus : List Entry). sym (done bus).0 ∙ inv.placed bus in
    let left = sym (done []).1 ∙ inv.left in assumption
