use Rattle.scripts.specs.Script.{said_of}
use Rattle.command_texts.proofs.TransferTexts.{ok_then}
use Rattle.command_texts.proofs.SerialReplays.{script_for_port, serial_told}
use Rattle.command_texts.proofs.serial.sent_in_replay.Goals as goal

pub all_steps-requires-clause-for_port : goal.all_steps-requires-clause-for_port
all_steps-requires-clause-for_port c =
    rw (c.in_ok-serial.ensures.setup, c.deref-2.ensures.value)
    (script_for_port c.args.board.setup (said_of c.args.script.now) c.requires.fresh.in_range c.requires.fresh.cards)

pub returns : goal.returns
returns c =
    let went = rw (c.deref-2.ensures.value, c.new-sent.ensures.items) at c.in_ok-all_steps.ensures.went_on in
    record {
      text = ok_then _ c.of_bytes.ensures.bytes (λ text is.
          serial_told c.law_lock.ensures.kept _ _ c.in_ok-serial.serial c.all_steps.new.serial _
          c.in_ok-all_steps.field-0.now _ _ c.in_ok-serial.ensures.setup c.in_ok-serial.ensures.entries
          c.in_ok-serial.ensures.com1 went (rw c.board.ensures.board at c.history-legal.ensures.legal) is);
    }
