use Rattle.command_texts.proofs.TransferTexts.{abort_added}
use Rattle.command_texts.proofs.transfers.push_abort.Goals as goal

pub returns : goal.returns
returns c = record {
  appended =
      abort_added _ _ _ _ _ _ _ _ _ c.in_ok-push_words.ensures.appended c.in_ok-push_hex_long.ensures.appended
      c.in_ok-push_words-2.ensures.appended c.push_denial.ensures.appended;
}
