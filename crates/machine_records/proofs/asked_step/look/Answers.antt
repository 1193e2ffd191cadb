use Rattle.std.proofs.Common.{refl, ◌∙◌, lit<}
use Rattle.board_spec.specs.declared.event.Reply.TheVariants.{Saw}
use Rattle.uart_16550.specs.declared.com1.SerialReply.{SerialReply}
use Rattle.uart_16550.specs.declared.com1.SerialReply.TheVariants.{Board as OfBoard}
use Rattle.board_chipset.specs.declared.reset_control.ResetKind.TheVariants.{None as NoReset}
use Rattle.machine_records.proofs.AskedSteps.{whole}
use Rattle.machine_records.proofs.asked_step.look.Goals as goal

pub returns : goal.returns
returns c =
    let step = c.look-said.ensures in
    let reply : SerialReply = OfBoard (Saw c.look-said.result) in
    record {
      done = record {
        can = tt;
        setup = refl;
        reply = reply;
        held = λ bytes holds. step.held bytes holds;
        told = record {
          reset = NoReset;
          told =
              c.write_after.ensures.held
              ∙ rw (c.write_look.ensures.written) (whole c.args.reply.now reply _);
        };
        answered = λ history left.
            let gone = step.history history 0 (lit< tt) left in
            record {
              answer = step.answer history left;
              com1 = refl;
              goes_on = gone;
              told =
                  c.write_after.ensures.after gone.after gone.left_at.left
                  ∙ rw (c.write_look.ensures.written) (whole c.args.reply.now reply _);
            };
      };
    }
