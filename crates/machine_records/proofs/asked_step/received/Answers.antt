use Rattle.std.proofs.Common.{None, refl, ap, ◌∙◌}
use Rattle.uart_16550.specs.declared.com1.SerialReply.TheVariants.{Uart as OfUart}
use Rattle.uart_16550.specs.Com1.{change_steps}
use Rattle.machine_records.proofs.EventReplies.{after_as}
use Rattle.board_chipset.specs.declared.reset_control.ResetKind.TheVariants.{None as NoReset}
use Rattle.machine_records.proofs.AskedSteps.{whole}
use Rattle.machine_records.proofs.asked_step.received.Goals as goal

pub returns : goal.returns
returns c = record {
  done = record {
    can = c.requires.room;
    setup = c.receive.ensures.setup;
    reply = OfUart None None;
    held = λ bytes holds. refl;
    told = record {
      reset = NoReset;
      told =
          c.write_after.ensures.held
          ∙ rw (c.write_uart.ensures.written) (whole c.args.reply.now (OfUart None None) _);
    };
    answered = λ history left.
        let gone = c.receive.ensures.history history left in
        record {
          answer = refl;
          com1 = c.receive.ensures.com1;
          goes_on = after_as c.receive.new.self history _ _
              (ap (change_steps c.args.serial.now.com1) c.receive.ensures.com1) gone;
          told =
              c.write_after.ensures.after gone.after gone.left_at.left
              ∙ rw (c.write_uart.ensures.written, c.receive.ensures.setup)
              (whole c.args.reply.now (OfUart None None) _);
        };
  };
}
