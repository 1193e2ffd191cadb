use Rattle.board_prelude.proofs.{map-append}
use Rattle.map_builder.specs.Ranges.{range_of}
use Rattle.map_builder.proofs.ranges.end_below.Goals as goal

pub returns : goal.returns
returns c = record { ended = rw c.push.ensures.items (map-append range_of c.args.ranges.now.items _) }
