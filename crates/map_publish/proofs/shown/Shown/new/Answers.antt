use Rattle.map_publish.proofs.Changes.{unchanged}
use Rattle.map_publish.proofs.shown.Shown.new.Goals as goal

pub invariant_of-result : goal.invariant_of-result
invariant_of-result c = record { is_map = rw (c.opened.ensures.list, c.copy.ensures.equal) (unchanged c.args.map.now) }
