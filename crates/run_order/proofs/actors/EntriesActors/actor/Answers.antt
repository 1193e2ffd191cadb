use Rattle.std.proofs.Common.{◌∙◌, ap, arith}
use Rattle.board_prelude.proofs.{Entry, get_or-map, length-map}
use Rattle.run_order.proofs.actors.EntriesActors.actor.Goals as goal

pub returns : goal.returns
returns c = record {
  actor = λ other.
      get_or-map (λ (e : Entry). e.actor) c.args.self.now c.args.i c.entry.result other
      (omega (arith, c.requires.within, length-map c.args.self.now (λ (e : Entry). e.actor)))
      ∙ ap (λ (e : Entry). e.actor) (c.entry.ensures.entry c.entry.result);
}
