use Rattle.uart_16550.specs.Uart.{is_dlab}
use Rattle.uart_16550.specs.Reads.{register_read}
use Rattle.uart_16550.proofs.CallProofs.{read_in_order}
use Rattle.uart_16550.proofs.uart.Uart.port_read.Goals as goal

pub returns-clause-order : goal.returns-clause-order
returns-clause-order c =
    rw (c.read.ensures.value, c.read.ensures.after, c.at-register.ensures.register, c.is_dlab.ensures.is)
    (read_in_order c.args.self.now (register_read (is_dlab c.args.self.now) c.args.off))
