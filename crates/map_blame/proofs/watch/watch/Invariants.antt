use Rattle.std.proofs.Common.{◌≡◌, ℕ, ◌<◌, [], length, take, reverse, slice_index_or, All}
use Rattle.board_spec.specs.Setup.{Setup, IsCardList}
use Rattle.map_blame.specs.declared.watch.Watched.{Watched}
use Rattle.map_blame.specs.Watch.{IsAfter, IsWatched}
use Rattle.map_blame.proofs.watch.watch.Given as goal

abbrev pub invariant-loop-index : goal.invariant-loop-index
invariant-loop-index l = record {
  count : length l.watched ≡ length l.fn.watched;
  ranges : (k : ℕ) (d : Watched) → k < length l.fn.watched →
      (slice_index_or l.watched k d).blamed.range ≡ (slice_index_or l.fn.watched k d).blamed.range;
  after : (setup : Setup) → IsAfter setup [] l.fn.map → IsAfter setup (reverse (take l.index l.changes)) l.map;
  watched : (setup : Setup) → IsCardList setup.cards → IsAfter setup [] l.fn.map →
      All (IsWatched setup []) l.fn.watched → All (IsWatched setup (reverse (take l.index l.changes))) l.watched;
}
