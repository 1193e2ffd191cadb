use Rattle.std.proofs.Common.{◌∙◌, lit<}
use Rattle.board_spec.specs.Registers.{is_hard_reset}
use Rattle.board_chipset.specs.BusReplies.{reply_of}
use Rattle.uart_16550.specs.declared.com1.SerialReply.{SerialReply}
use Rattle.uart_16550.specs.declared.com1.SerialReply.TheVariants.{Board as OfBoard}
use Rattle.machine_records.proofs.AskedSteps.{whole}
use Rattle.machine_records.proofs.EventReplies.{held_outside}
use Rattle.machine_records.proofs.asked_step.outside.Goals as goal

pub returns : goal.returns
returns c =
    let step = c.outside-said.ensures in
    let reply : SerialReply = OfBoard (reply_of c.outside-said.result) in
    record {
      done = record {
        can = c.requires.in_range;
        setup = step.setup;
        reply = reply;
        held = λ bytes holds.
            rw (step.other) (held_outside c.args.serial.now.board bytes c.args.event.now _ c.requires.devices step.held);
        told = record {
          reset = c.reset_of-reset.result;
          told =
              c.write_after.ensures.held
              ∙ rw (c.write_cycle.ensures.written) (whole c.args.reply.now reply _);
        };
        answered = λ history left.
            let resets = is_hard_reset history c.args.event.now in
            let gone = step.history history 0 resets (lit< tt) left in
            record {
              answer = rw (step.other) (step.answer history left);
              com1 = step.com1 resets;
              goes_on = gone;
              told =
                  c.write_after.ensures.after gone.after gone.left_at.left
                  ∙ rw (
                    c.write_cycle.ensures.written,
                    step.setup,
                    c.reset_of-reset.ensures.kind history (rw c.board.ensures.board left.left),
                  ) (whole c.args.reply.now reply _);
            };
      };
    }
