use Rattle.logs.specs.LinesFrom.{entry_with}
use Rattle.logs.proofs.Joined.{number_before}
use Rattle.logs.proofs.log.put_entry.Goals as goal

pub returns : goal.returns
returns c = record {
  words = number_before c.args.n (entry_with c.args.actor c.args.seq c.args.event.now c.args.reply.now) _ _ _ _
      c.put_unnumbered.ensures.words c.put.ensures.words c.put_decimal.ensures.words;
}
