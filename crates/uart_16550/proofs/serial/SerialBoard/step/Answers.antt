use Rattle.std.proofs.Common.{rules, refl, sym, ◌∙◌, arith}
use Rattle.std.proofs.lemmas.Grind.{common_steps}
use Rattle.board_spec.specs.Registers.{is_hard_reset}
use Rattle.uart_16550.proofs.SerialSteps.{is_plain, plain_step}
use Rattle.uart_16550.proofs.serial.SerialBoard.step.Goals as goal

pub returns-in_default : goal.returns-in_default
returns-in_default g c =
    let plain = is_plain c.args.event.now c.in_default.not-Port c.in_default.not-Line in
    record {
      setup = search rules;
      spare = grind (arith, common_steps);
      uart = λ access is. absurd (cc (sym plain.access ∙ is));
      board =
          rw (← c.self.view_is)
          (λ _. (
            c.step.result,
            refl,
            λ history left_at. rw (plain.heard c.self.inside.com1) (c.step.ensures.answer history left_at.left),
          ));
      com1 =
          rw (← c.self.view_is)
          (λ history left_at. sym (plain.after (is_hard_reset history c.args.event.now) c.self.inside.com1));
      history =
          rw (← c.self.view_is)
          (λ history left_at.
          plain_step left_at c.step.ensures.setup (c.step.ensures.answer history left_at.left)
          (c.step.ensures.left history left_at.left) c.self.inside.com1 (is_hard_reset history c.args.event.now) plain
          c.requires.actor);
    }
