use Rattle.std.proofs.Common.{append_assoc}
use Rattle.pit_8254.proofs.counting.Counter.save_state.Goals as goal

pub returns : goal.returns
returns c = record {
  saved = simp (
    c.in_ok-save_latches.ensures.saved,
    c.in_ok-save_counts.ensures.saved,
    c.in_ok-push_bytes.ensures.added,
    c.word.ensures.bytes,
    c.flags.ensures.bytes,
    append_assoc,
  ) at c.push_bytes-2.ensures.added;
}
