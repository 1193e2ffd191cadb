use Rattle.std.proofs.Common.{refl}
use Rattle.uart_16550.proofs.Loads.{writes_clock, written, written_on}
use Rattle.uart_16550.proofs.over_chipset.SerialBoard+Chipset.set_clock_byte.Goals as goal

pub returns-clause-goes_on : goal.returns-clause-goes_on
returns-clause-goes_on c =
    rw (← c.self.view_is)
    (written_on (writes_clock c.args.address c.args.byte) _ _ (refl {a = c.self.inside.com1})
    c.set_clock_byte.result c.set_clock_byte.ensures.left c.set_clock_byte.ensures.unchanged)

pub returns-clause-left : goal.returns-clause-left
returns-clause-left c =
    rw (← c.self.view_is)
    (written (writes_clock c.args.address c.args.byte) _ _ (refl {a = c.self.inside.com1})
    c.set_clock_byte.result c.set_clock_byte.ensures.left)
