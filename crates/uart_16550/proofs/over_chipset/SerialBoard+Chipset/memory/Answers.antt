use Rattle.std.proofs.Common.{refl}
use Rattle.uart_16550.proofs.SerialSteps.{quiet_step}
use Rattle.uart_16550.proofs.over_chipset.SerialBoard+Chipset.memory.Goals as goal

pub returns-clause-history : goal.returns-clause-history
returns-clause-history c =
    rw (← c.self.view_is)
    (λ history actor below left_at.
    quiet_step left_at c.memory.ensures.setup (c.memory.ensures.answer history left_at.left)
    (c.memory.ensures.left history _ left_at.left refl refl) refl below)
