use Rattle.promises.proofs.HeadlineLaws.{replays_are_accepted, runs_are_accepted, accepted_are_logged}
use Rattle.promises.proofs.laws.law_accepted.Goals as goal

pub returns : goal.returns
returns c = record {
  replays = replays_are_accepted;
  runs = runs_are_accepted;
  accepted = accepted_are_logged c.law_lock.ensures.kept;
}
