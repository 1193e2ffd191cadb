use Rattle.std.proofs.Common.{◌∙◌, lit<, refl}
use Rattle.board_chipset.specs.BusReplies.{reply_of}
use Rattle.uart_16550.specs.declared.com1.SerialReply.{SerialReply}
use Rattle.uart_16550.specs.declared.com1.SerialReply.TheVariants.{Board as OfBoard}
use Rattle.machine_records.proofs.EventReplies.{after_as}
use Rattle.machine_records.proofs.AskedSteps.{whole}
use Rattle.machine_records.proofs.asked_step.board_access.Goals as goal

pub returns : goal.returns
returns c =
    let step = c.port-said.ensures in
    let new = c.port-said.new.self in
    let reply : SerialReply = OfBoard (reply_of c.port-said.result) in
    record {
      done = record {
        can = c.requires.bus;
        setup = step.setup;
        reply = reply;
        held = λ bytes holds. rw (c.requires.board) (step.held bytes holds);
        told = record {
          reset = c.reset_by-reset.result;
          told =
              c.write_after.ensures.held
              ∙ rw (c.write_port.ensures.written) (whole c.args.reply.now reply _);
        };
        answered = λ history left.
            let com1 = step.com1 history left in
            let gone = step.history history 0 (lit< tt) left in
            record {
              answer = rw (c.requires.board) (step.answer history left);
              com1 = com1;
              goes_on =
                  after_as new history _ _
                  (rw (com1, c.requires.board) refl) gone;
              told =
                  c.write_after.ensures.after gone.after gone.left_at.left
                  ∙ rw (
                    c.write_port.ensures.written,
                    step.setup,
                    c.reset_by-reset.ensures.kind history (rw c.board.ensures.board left.left),
                  ) (whole c.args.reply.now reply _);
            };
      };
    }
