use Rattle.map_publish.proofs.Sights.{sight_of}
use Rattle.map_publish.proofs.viewer.Viewer.new.Goals as goal

pub invariant_of-result-clause-seen : goal.invariant_of-result-clause-seen
invariant_of-result-clause-seen c = sight_of _ c.args.map.now _ c.requires.map c.new.ensures.version c.new.ensures.map
