use Rattle.scripts.proofs.StraightLemmas.{access_straight}
use Rattle.scripts.proofs.straight.straight_access.Goals as goal

pub returns : goal.returns
returns c = record {
  event = access_straight _ _ _ _ _ _ c.in_ok-size.ensures.first c.read_event.ensures.event;
}
