use Rattle.board_chipset.proofs.Openings.{any_found}
use Rattle.board_chipset.proofs.setup.Setup.has_card.Goals as goal

pub returns : goal.returns
returns c = record {
  card = rw (c.any_card.ensures.any, c.deref.ensures.value, ← c.self.view_is) (any_found c.args.dev _);
}
