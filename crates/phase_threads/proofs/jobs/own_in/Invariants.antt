use Rattle.std.proofs.Common.{◌≡◌, ℕ, ◌<◌, length, take, slice_index}
use Rattle.board_prelude.proofs.{events_by}
use Rattle.phase_threads.proofs.jobs.own_in.Given as goal

abbrev pub invariant-loop-statement : goal.invariant-loop-statement
invariant-loop-statement l = record {
  many : length l.counts ≡ 256;
  own : (actor : ℕ) → actor < 256
      → slice_index l.counts actor ≡ length (events_by actor (take l.statement-index l.phase));
}
