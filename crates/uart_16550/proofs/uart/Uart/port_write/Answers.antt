use Rattle.uart_16550.specs.Uart.{is_dlab}
use Rattle.uart_16550.proofs.CallProofs.{write_keeps}
use Rattle.uart_16550.proofs.uart.Uart.port_write.Goals as goal

pub returns-clause-order : goal.returns-clause-order
returns-clause-order c = λ kept.
    rw (c.write.ensures.after, c.at-register.ensures.register, c.is_dlab.ensures.is) (write_keeps _ _ _ kept)
