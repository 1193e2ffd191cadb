use Rattle.std.proofs.Common.{◌≡◌, false, ◌==◌, refl}
use Rattle.board_prelude.proofs.{ne_eqb}
use Rattle.uart_16550.specs.Com1.{com1_irq}
use Rattle.uart_16550.proofs.SerialSteps.{named_step}
use Rattle.uart_16550.proofs.serial.SerialBoard.line.Goals as goal

pub returns-then-irq-eq-COM1_IRQ-clause-history : goal.returns-then-irq-eq-COM1_IRQ-clause-history
returns-then-irq-eq-COM1_IRQ-clause-history g c =
    let com1 = c.self.inside.com1 in
    let own = c.if-irq-eq-COM1_IRQ.true in
    let level = c.level-on.ensures.level in
    rw (← c.self.view_is)
    (λ history left_at.
    named_step left_at c.step.ensures.setup (c.step.ensures.answer history left_at.left)
    (c.step.ensures.left history left_at.left)
    _ _ (rw own level) c.requires.actor (rw (own, level) refl))

pub returns-clause-history : goal.returns-clause-history
returns-clause-history g c =
    let com1 = c.self.inside.com1 in
    let other : (c.args.irq == com1_irq) ≡ false = ne_eqb _ _ c.if-irq-eq-COM1_IRQ.false in
    rw (← c.self.view_is)
    (λ history left_at.
    named_step left_at c.step-2.ensures.setup (c.step-2.ensures.answer history left_at.left)
    (c.step-2.ensures.left history left_at.left) _ _ (rw other refl) c.requires.actor (rw other refl))
