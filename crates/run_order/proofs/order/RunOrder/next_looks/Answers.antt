use Rattle.std.proofs.Common.{List, [], sym, ◌∙◌, arith}
use Rattle.board_prelude.proofs.{Entry}
use Rattle.run_order.specs.Over.{over}
use Rattle.run_order.proofs.Counts.{one_of}
use Rattle.run_order.proofs.Settled.{look_at, settled}
use Rattle.run_order.proofs.order.RunOrder.next_looks.Goals as goal

pub looks-requires-clause-room : goal.looks-requires-clause-room
looks-requires-clause-room c =
    let one = one_of (λ done. done.now) c.args.rests.now c.from-place.result (record { ref_ptr = (0, 0); now = [] })
    (omega (arith, c.requires.actor, c.from-place.ensures)) in
    omega (arith, one, c.requires.room)

pub returns : goal.returns
returns c =
    let so = c.requires.settled c.if-version-before.false in let is = c.from-place.ensures in
    let look = λ (bus : List Entry). look_at c.from-place.result c.args.actor (λ done. done.now) c.args.rests.now
    c.looks.result _ is (omega (arith, c.requires.actor, is)) (λ j less. so j (λ e. omega (arith, e, is, less)))
    c.looks.ensures.left (c.looks.ensures.placed bus) c.looks.ensures.room in
    let done = λ (bus : List Entry). settled c.args.version 0 _ (over bus c.looks.new.self.entries)
    (λ j. (look bus).others j (λ other. so j (λ e. other (e ∙ sym is)))) in
    let placed = λ (bus : List Entry). sym (done bus).0 ∙ (look bus).placed in
    let left = sym (done []).1 ∙ (look []).left_is in let room = (look []).room in assumption
