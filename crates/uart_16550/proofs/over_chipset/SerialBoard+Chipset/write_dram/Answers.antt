use Rattle.std.proofs.Common.{refl}
use Rattle.uart_16550.proofs.Loads.{writes_dram, written, written_on}
use Rattle.uart_16550.proofs.over_chipset.SerialBoard+Chipset.write_dram.Goals as goal

pub returns-clause-goes_on : goal.returns-clause-goes_on
returns-clause-goes_on c =
    rw (← c.self.view_is)
    (written_on (writes_dram c.args.addr c.args.bytes.now) _ _ (refl {a = c.self.inside.com1})
    c.write_dram.result c.write_dram.ensures.left c.write_dram.ensures.unchanged)

pub returns-clause-left : goal.returns-clause-left
returns-clause-left c =
    rw (← c.self.view_is)
    (written (writes_dram c.args.addr c.args.bytes.now) _ _ (refl {a = c.self.inside.com1})
    c.write_dram.result c.write_dram.ensures.left)
