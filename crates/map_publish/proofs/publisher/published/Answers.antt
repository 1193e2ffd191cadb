use Rattle.std.proofs.Common.{rules, drop}
use Rattle.map_publish.proofs.Naming.{publishes}
use Rattle.map_publish.proofs.publisher.published.Goals as goal

pub publish_as-writer-requires : goal.publish_as-writer-requires
publish_as-writer-requires g c next is =
    let w = c.append.new.self in
    publishes _ _ w.desk.shown.value next c.args.what.1 c.args.what.2 (drop w.behind w.log.items) (search rules)
    (search rules) (search rules) (search rules) (search rules) is
