use Rattle.std.proofs.Common.{Some, sym, ap, ◌∙◌}
use Rattle.log_check.proofs.TextCuts.{named}
use Rattle.log_check.proofs.field.processor.Goals as goal

pub returns-in_err-named : goal.returns-in_err-named
returns-in_err-named c = record {
  named = λ entry after small is. absurd (c.in_err-named.ensures.past _ (is ∙ (named c.args.n entry after).1));
}

pub returns-in-Some : goal.returns-in-Some
returns-in-Some c = record {
  named = λ entry after small is.
      let cut = c.in_ok-named.ensures.past _ (is ∙ (named c.args.n entry after).1) in
      ap Some (sym (c.in-Some.ensures.single entry.actor _ small cut));
}

pub returns-in-None : goal.returns-in-None
returns-in-None c = record {
  named = λ entry after small is.
      c.before_stop.ensures.number entry.actor _ small
      (c.in_ok-named.ensures.past _ (is ∙ (named c.args.n entry after).1));
}
