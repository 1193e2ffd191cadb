use Rattle.std.proofs.Common.{◌∙◌, sym}
use Rattle.board_chipset.proofs.CardLoadSteps.{fitting}
use Rattle.board_chipset.proofs.chipset.Chipset.card_bytes.Goals as goal

pub read_bytes-requires : goal.read_bytes-requires
read_bytes-requires c =
    assumption (fitting c.self.invariant c.args.dev c.args.base c.args.off _
    (sym c.is_empty.ensures ∙ c.if-is_empty.false) (rw (← c.self.view_is) at c.in_ok-test_card.ensures.within))
