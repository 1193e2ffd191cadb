use Rattle.std.proofs.Common.{arith}
use Rattle.map_builder.proofs.BoundsLemmas.{decided_few}
use Rattle.map_builder.proofs.changed.push_of_single.Goals as goal

pub push_ranges-requires : goal.push_ranges-requires
push_ranges-requires c = record {
  room = omega (arith, decided_few c.args.number _ c.decided.ensures.ranges, c.requires.room);
}

pub returns : goal.returns
returns c = record {
  few = omega (arith, decided_few c.args.number _ c.decided.ensures.ranges, c.push_ranges.ensures.few);
  windows = rw c.decided.ensures.ranges at c.push_ranges.ensures.windows;
}
