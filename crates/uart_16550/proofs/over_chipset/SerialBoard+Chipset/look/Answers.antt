use Rattle.std.proofs.Common.{refl}
use Rattle.board_spec.specs.declared.event.Reply.TheVariants.{Saw}
use Rattle.uart_16550.proofs.SerialSteps.{quiet_step}
use Rattle.uart_16550.proofs.over_chipset.SerialBoard+Chipset.look.Goals as goal

pub returns-clause-history : goal.returns-clause-history
returns-clause-history c =
    rw (← c.self.view_is)
    (λ history actor below left_at.
    quiet_step {reply = Saw c.look.result} left_at refl (c.look.ensures.answer history left_at.left)
    (c.look.ensures.left history _ left_at.left refl) refl below)

pub returns-clause-held : goal.returns-clause-held
returns-clause-held c = rw (← c.self.view_is) c.look.ensures.held
