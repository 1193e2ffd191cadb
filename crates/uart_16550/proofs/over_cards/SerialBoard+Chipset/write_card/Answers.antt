use Rattle.std.proofs.Common.{refl}
use Rattle.uart_16550.proofs.CardLoads.{writes_card}
use Rattle.uart_16550.proofs.Loads.{written, written_on}
use Rattle.uart_16550.proofs.over_cards.SerialBoard+Chipset.write_card.Goals as goal

pub returns-clause-goes_on : goal.returns-clause-goes_on
returns-clause-goes_on c =
    rw (← c.self.view_is)
    (written_on (writes_card c.args.dev c.args.base c.args.off c.args.bytes.now) _ _ (refl {a = c.self.inside.com1})
    c.write_card.result c.write_card.ensures.left c.write_card.ensures.unchanged)

pub returns-clause-left : goal.returns-clause-left
returns-clause-left c =
    rw (← c.self.view_is) (written (writes_card c.args.dev c.args.base c.args.off c.args.bytes.now) _ _
    (refl {a = c.self.inside.com1}) _ c.write_card.ensures.left)
