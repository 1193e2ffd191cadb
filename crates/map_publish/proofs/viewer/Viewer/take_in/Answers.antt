use Rattle.map_publish.proofs.Sights.{sight_of}
use Rattle.map_publish.proofs.viewer.Viewer.take_in.Goals as goal

pub invariant_of-self-clause-seen : goal.invariant_of-self-clause-seen
invariant_of-self-clause-seen c = sight_of _ c.args.map.now _ c.requires.map c.take_in.ensures.version
    c.take_in.ensures.map
