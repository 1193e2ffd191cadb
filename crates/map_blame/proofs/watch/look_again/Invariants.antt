use Rattle.std.proofs.Common.{◌≡◌, ℕ, ◌<◌, ◌≤◌, length, slice_index_or}
use Rattle.map_blame.specs.declared.watch.Watched.{Watched}
use Rattle.map_blame.specs.Watch.{IsWatchedOn}
use Rattle.map_blame.proofs.watch.look_again.Given as goal

abbrev pub invariant-loop-one : goal.invariant-loop-one
invariant-loop-one l = record {
  count : length l.watched ≡ length l.fn.watched;
  done : (k : ℕ) (d : Watched) → k < l.one-index →
      IsWatchedOn l.map l.bounds l.number (slice_index_or l.fn.watched k d) (slice_index_or l.watched k d);
  rest : (k : ℕ) (d : Watched) → l.one-index ≤ k → slice_index_or l.watched k d ≡ slice_index_or l.fn.watched k d;
}
