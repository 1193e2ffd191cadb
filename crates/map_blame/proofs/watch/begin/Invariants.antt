use Rattle.std.proofs.Common.{◌≡◌, [], map, take, All}
use Rattle.board_spec.specs.Setup.{Setup}
use Rattle.map_blame.specs.Watch.{IsAfter, IsWatched}
use Rattle.map_blame.proofs.watch.begin.Given as goal

abbrev pub invariant-loop-range : goal.invariant-loop-range
invariant-loop-range l = record {
  ranges : map (λ one. one.blamed.range) l.watched.items ≡ take l.range-index l.ranges;
  watched : (setup : Setup) → IsAfter setup [] l.first → All (IsWatched setup []) l.watched.items;
}
