use Rattle.std.proofs.Common.{◌∙◌, lit<}
use Rattle.board_chipset.specs.BusReplies.{wide_reply_of}
use Rattle.uart_16550.specs.declared.com1.SerialReply.{SerialReply}
use Rattle.uart_16550.specs.declared.com1.SerialReply.TheVariants.{Board as OfBoard}
use Rattle.board_chipset.specs.declared.reset_control.ResetKind.TheVariants.{None as NoReset}
use Rattle.machine_records.proofs.AskedSteps.{whole}
use Rattle.machine_records.proofs.asked_step.wide.Goals as goal

pub returns : goal.returns
returns c =
    let step = c.wide-said.ensures in
    let reply : SerialReply = OfBoard (wide_reply_of c.wide-said.result) in
    record {
      done = record {
        can = c.requires.wide;
        setup = step.setup;
        reply = reply;
        held = λ bytes holds. step.held bytes holds;
        told = record {
          reset = NoReset;
          told =
              c.write_after.ensures.held
              ∙ rw (c.write_wide.ensures.written) (whole c.args.reply.now reply _);
        };
        answered = λ history left.
            let gone = step.history history 0 (lit< tt) left in
            record {
              answer = step.answer history left;
              com1 = step.com1;
              goes_on = gone;
              told =
                  c.write_after.ensures.after gone.after gone.left_at.left
                  ∙ rw (c.write_wide.ensures.written, step.setup) (whole c.args.reply.now reply _);
            };
      };
    }
