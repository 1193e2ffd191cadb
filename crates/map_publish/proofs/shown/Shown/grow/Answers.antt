use Rattle.std.proofs.Common.{arith}
use Rattle.map_publish.proofs.Changes.{changed_map}
use Rattle.map_publish.proofs.shown.Shown.grow.Goals as goal

pub invariant_of-self : goal.invariant_of-self
invariant_of-self c =
    let shown = c.args.self.now in
    record {
      is_map = rw c.grown.ensures.list (changed_map shown.list.log c.args.change.now shown.is_map
          c.apply.ensures.applied (omega (arith, shown.is_map.version, c.requires.room)));
    }
