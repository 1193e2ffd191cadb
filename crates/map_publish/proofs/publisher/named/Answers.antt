use Rattle.std.proofs.Common.{rules, drop}
use Rattle.map_publish.proofs.Naming.{begins}
use Rattle.map_publish.proofs.publisher.named.Goals as goal

pub publish_as-writer-requires : goal.publish_as-writer-requires
publish_as-writer-requires g c next is =
    let w = c.append.new.self in
    begins _ _ w.desk.shown.value next (drop w.behind w.log.items) (search rules) (search rules) is
