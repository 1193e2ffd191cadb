use Rattle.std.proofs.Common.{◌∙◌, refl}
use Rattle.uart_16550.specs.Com1.{from_uart}
use Rattle.machine_records.proofs.EventReplies.{after_as}
use Rattle.machine_records.proofs.AskedSteps.{whole}
use Rattle.machine_records.proofs.asked_step.uart_access.Goals as goal

pub returns : goal.returns
returns c =
    let step = c.uart_access-said.ensures in
    let new = c.uart_access-said.new.self in
    record {
      done = record {
        can = c.requires.bus;
        setup = step.setup;
        reply = from_uart c.uart_access-said.result;
        held = λ bytes holds. rw (c.requires.uart) step.reply;
        told = record {
          reset = c.reset_by-reset.result;
          told =
              c.write_after.ensures.held
              ∙ rw (c.write_uart.ensures.written)
              (whole c.args.reply.now (from_uart c.uart_access-said.result) _);
        };
        answered = λ history left.
            let gone = step.history history left in
            record {
              answer = rw (c.requires.uart) step.reply;
              com1 = rw (step.com1, c.requires.uart) refl;
              goes_on =
                  after_as new history _ _
                  (rw (step.com1, c.requires.uart) refl) gone;
              told =
                  c.write_after.ensures.after gone.after gone.left_at.left
                  ∙ rw (
                    c.write_uart.ensures.written,
                    step.setup,
                    c.reset_by-reset.ensures.kind history (rw c.board.ensures.board left.left),
                  ) (whole c.args.reply.now (from_uart c.uart_access-said.result) _);
            };
      };
    }
