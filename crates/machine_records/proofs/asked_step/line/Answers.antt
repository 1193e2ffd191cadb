use Rattle.std.proofs.Common.{None, refl, ◌∙◌}
use Rattle.board_prelude.proofs.{Line}
use Rattle.machine_records.proofs.EventReplies.{held_line, reply_is}
use Rattle.machine_records.proofs.AskedSteps.{whole}
use Rattle.machine_records.proofs.asked_step.line.Goals as goal

pub returns : goal.returns
returns c =
    let step = c.step-said.ensures in
    record {
      done = record {
        can = c.requires.in_range;
        setup = step.setup;
        reply = c.step-said.result;
        held = λ bytes holds.
            held_line c.args.serial.now bytes c.args.irq c.args.on c.step-said.result _ (step.board refl).1;
        told = record {
          reset = c.reset_of-reset.result;
          told =
              c.write_after.ensures.held
              ∙ rw (c.write_reply.ensures.written) (whole c.args.reply.now c.step-said.result _);
        };
        answered = λ history left.
            let gone = step.history history left in
            record {
              answer = reply_is c.args.serial.now history (Line c.args.irq c.args.on) None c.step-said.result left step.uart
                  step.board;
              com1 = step.com1 history left;
              goes_on = gone;
              told =
                  c.write_after.ensures.after gone.after gone.left_at.left
                  ∙ rw (
                    c.write_reply.ensures.written,
                    step.setup,
                    c.reset_of-reset.ensures.kind history (rw c.board.ensures.board left.left),
                  ) (whole c.args.reply.now c.step-said.result _);
            };
      };
    }
