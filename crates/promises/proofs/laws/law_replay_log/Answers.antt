use Rattle.promises.proofs.HeadlineLaws.{some_replay_log, one_replay_log}
use Rattle.promises.proofs.laws.law_replay_log.Goals as goal

pub returns : goal.returns
returns c = record {
  some = some_replay_log c.law_one_replay.ensures.some c.law_lock.ensures.kept c.law_in_range.ensures.each;
  one = one_replay_log c.law_one_replay.ensures.one c.law_one_script.ensures.one;
}
