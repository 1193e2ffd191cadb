use Rattle.std.proofs.Common.{◌≡◌, Bool, true, false, refl, not}
use Rattle.std.proofs.Math.Bool.{beq}
use Rattle.uart_16550.specs.Writes.{differ}
use Rattle.uart_16550.proofs.SerialSteps.{no_step, one_step}
use Rattle.uart_16550.proofs.line.move_line.Goals as goal

differs : (old new : Bool) → not (beq old new) ≡ true → differ old new ≡ true
differs true true is = is
differs false false is = is
differs _ _ is = refl

pub returns-then-old-new-clause-moved : goal.returns-then-old-new-clause-moved
returns-then-old-new-clause-moved g c = λ history left_at.
    rw (differs _ _ c.if-old-new.true) (one_step left_at c.step.ensures.setup
    (c.step.ensures.answer history left_at.left) (c.step.ensures.left history left_at.left)
    _ refl (λ _. refl))

agrees : (old new : Bool) → not (beq old new) ≡ false → (old ≡ new) × (differ old new ≡ false)
agrees true true is = (refl, refl)
agrees false false is = (refl, refl)
agrees _ _ is = absurd (cc is)

pub returns-else-old-new-clause-moved : goal.returns-else-old-new-clause-moved
returns-else-old-new-clause-moved g c =
    let stays = agrees c.args.old c.args.new c.if-old-new.false in
    λ history left_at.
    rw (stays.1) (no_step (rw (stays.0) at left_at))
