use Rattle.std.proofs.Common.{refl}
use Rattle.uart_16550.proofs.SerialSteps.{accessed_alone, accessed_and_moved}
use Rattle.uart_16550.proofs.over_chipset.SerialBoard+Chipset.port.Goals as goal

pub returns-then-not-resets-clause-history : goal.returns-then-not-resets-clause-history
returns-then-not-resets-clause-history c =
    rw (← c.self.view_is)
    (λ history actor below left_at.
    accessed_alone left_at c.port-reply.ensures.setup (c.port-reply.ensures.answer history left_at.left)
    (c.port-reply.ensures.left history _ left_at.left refl refl)
    c.self.inside.com1 refl below)

pub returns-clause-history : goal.returns-clause-history
returns-clause-history c =
    rw (← c.self.view_is)
    (λ history actor below left_at.
    accessed_and_moved left_at c.port-reply.ensures.setup (c.port-reply.ensures.answer history left_at.left)
    (c.port-reply.ensures.left history _ left_at.left refl refl)
    c.renew.new.self.board c.self.inside.com1 c.renew.new.self.com1 refl below c.renew.ensures.setup
    c.renew.ensures.history)
