use Rattle.std.proofs.Common.{rules}
use Rattle.map_publish.specs.Lists.{IsMapOfLog}
use Rattle.map_publish.proofs.Naming.{enters}
use Rattle.map_publish.proofs.Sights.{sight_of}
use Rattle.map_publish.proofs.viewer.Viewer.refresh.Goals as goal
use Rattle.map_publish.proofs.viewer.Viewer.refresh.Goals.{then-begins+then-self-shown, else-begins}

pub enter_as-requires : goal.enter_as-requires
enter_as-requires c = enters _ _

pub invariant_of-self-in-Ok-clause-seen : goal.invariant_of-self-in-Ok-clause-seen
invariant_of-self-in-Ok-clause-seen c =
    let shown = c.get-shown.result.now in
    let known : IsMapOfLog shown.front.seen.log shown.map = search rules in
    elim c.if-begins.branch [
      | then-begins+then-self-shown w ↦ rw w.self-is
          (rw (w.again.ensures.equal) (sight_of _ shown.map _ known w.take_in.ensures.version w.take_in.ensures.map))
      | else-begins w ↦ rw w.self-is c.args.self.now.seen
    ]
