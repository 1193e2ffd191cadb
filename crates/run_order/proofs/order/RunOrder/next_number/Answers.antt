use Rattle.std.proofs.Common.{ℕ, ◌+◌, length, ◌∙◌, ap, arith, slice_index}
use Rattle.board_spec.specs.Legal.{entries_by}
use Rattle.run_order.specs.Over.{over}
use Rattle.run_order.specs.Room.{Order}
use Rattle.run_order.proofs.Counts.{number_fits}
use Rattle.run_order.proofs.order.RunOrder.next_number.Goals as goal

pub overflow_add-result : goal.overflow_add-result
overflow_add-result c =
    let fits = number_fits c.args.actor c.from.result c.from.ensures c.requires.actor c.self.invariant in
    omega (arith, fits, ap (λ (o : Order). o.spare) c.self.view_is, c.requires.room)

pub returns : goal.returns
returns c = record {
  number = λ bus. ap (λ (n : ℕ). n + 1) (ap (slice_index c.self.inside.counts) c.from.ensures
      ∙ (c.self.invariant.counted bus c.args.actor c.requires.actor
      ∙ ap (λ (o : Order). length (entries_by c.args.actor (over bus o.entries))) c.self.view_is));
}
