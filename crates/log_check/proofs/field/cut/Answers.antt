use Rattle.std.proofs.Common.{sym}
use Rattle.log_check.proofs.TextCuts.{cut_at_mark, not_lost}
use Rattle.log_check.proofs.field.cut.Goals as goal

pub returns-in_err-at : goal.returns-in_err-at
returns-in_err-at c = record {
  parts = λ before after apart is.
      absurd (not_lost c.args.mark c.args.bytes.now before after apart is (sym c.in_err-at.ensures.place));
}

pub returns : goal.returns
returns c = record {
  parts = λ before after apart is.
      cut_at_mark c.args.mark c.in_ok-at.at c.args.bytes.now before after apart is (sym c.in_ok-at.ensures.place);
}
