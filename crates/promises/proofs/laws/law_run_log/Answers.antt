use Rattle.promises.proofs.HeadlineLaws.{some_run_log}
use Rattle.promises.proofs.laws.law_run_log.Goals as goal

pub returns : goal.returns
returns c = record {
  some = some_run_log c.law_one_replay.ensures.some c.law_lock.ensures.kept c.law_in_range.ensures.each;
}
