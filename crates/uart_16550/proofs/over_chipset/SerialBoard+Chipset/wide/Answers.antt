use Rattle.std.proofs.Common.{refl}
use Rattle.uart_16550.proofs.SerialSteps.{quiet_step}
use Rattle.uart_16550.proofs.over_chipset.SerialBoard+Chipset.wide.Goals as goal

pub returns-clause-history : goal.returns-clause-history
returns-clause-history c =
    rw (← c.self.view_is)
    (λ history actor below left_at.
    quiet_step left_at c.wide.ensures.setup (c.wide.ensures.answer history left_at.left)
    (c.wide.ensures.left history _ left_at.left refl refl) refl below)
