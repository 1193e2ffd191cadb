use Rattle.std.proofs.Common.{refl}
use Rattle.uart_16550.proofs.SerialSteps.{accessed_alone, accessed_and_moved}
use Rattle.uart_16550.proofs.serial.SerialBoard.board_access.Goals as goal

pub returns-then-not-resets-clause-history : goal.returns-then-not-resets-clause-history
returns-then-not-resets-clause-history g c =
    rw (← c.self.view_is)
    (λ history left_at.
    accessed_alone left_at c.step-reply.ensures.setup
    (c.step-reply.ensures.answer history left_at.left) (c.step-reply.ensures.left history left_at.left)
    c.self.inside.com1 refl c.requires.actor)

pub returns-clause-history : goal.returns-clause-history
returns-clause-history g c =
    rw (← c.self.view_is)
    (λ history left_at.
    accessed_and_moved left_at c.step-reply.ensures.setup
    (c.step-reply.ensures.answer history left_at.left) (c.step-reply.ensures.left history left_at.left)
    c.renew.new.self.board c.self.inside.com1 c.renew.new.self.com1 refl c.requires.actor
    c.renew.ensures.setup c.renew.ensures.history)
