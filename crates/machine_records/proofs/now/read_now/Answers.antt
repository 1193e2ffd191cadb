use Rattle.machine_records.proofs.AskedSteps.{now_told}
use Rattle.machine_records.proofs.now.read_now.Goals as goal

pub returns : goal.returns
returns c = record {
  now =
      now_told c.args.serial.now c.board.result.now c.args.reply.now c.clear.new.into c.write_after.new.into
      c.lines_of-reply.result c.board.ensures.board c.lines_of-reply.ensures.lines c.clear.ensures.cleared
      c.write_after.ensures.held c.write_after.ensures.after;
}
