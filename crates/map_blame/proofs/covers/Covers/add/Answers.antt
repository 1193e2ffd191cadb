use Rattle.map_blame.proofs.CoverLemmas.{covers_of_reset}
use Rattle.map_blame.proofs.covers.Covers.add.Goals as goal

pub returns-in-Reset : goal.returns-in-Reset
returns-in-Reset c = record {
  added = λ changes number are. rw c.in-Reset.is (covers_of_reset changes c.new.result c.new.ensures.none);
}
