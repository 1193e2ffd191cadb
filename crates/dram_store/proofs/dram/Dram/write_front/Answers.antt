use Rattle.std.proofs.Common.{arith, refl, slice_index}
use Rattle.board_prelude.proofs.{concat}
use Rattle.dram_store.proofs.ConcatLemmas.{AreWritten, bank_written, lost}
use Rattle.dram_store.proofs.StretchLemmas.{front_put}
use Rattle.dram_store.proofs.dram.Dram.write_front.Goals as goal
use Rattle.dram_store.proofs.dram.Dram.write_front.Goals.{in-Some, in_default}

-- the bytes after the write, and how many they are
written : (c : goal.Joined-get_mut) →
    AreWritten c.args.self.now c.args.at c.min-count.result (slice_index c.args.bytes.now)
    (concat c.match-get_mut.self-inside.banks.items)
written c =
    elim c.match-get_mut.branch [
      | in-Some w ↦
          rw (w.self-inside-is, ← c.self.view_is)
          (bank_written _ _ _ _ _ (slice_index c.args.bytes.now) c.self.invariant.each
          (omega (arith, w.in-Some.ensures.variant.0 refl)) w.in-Some.ensures.value w.write_bytes.ensures.length
          (omega (arith, c.min-count.ensures))
          (front_put _ _ _ _ _ (omega (arith, c.min-count.ensures)) w.write_bytes.ensures.bytes))
      | in_default w ↦
          rw (w.self-inside-is, ← c.self.view_is)
          (lost _ _ _ (slice_index c.args.bytes.now) c.self.invariant.each w.in_default.ensures.item.3)
    ]

pub returns-clause-bytes : goal.returns-clause-bytes
returns-clause-bytes c = (written c).0

pub returns-clause-size : goal.returns-clause-size
returns-clause-size c = (written c).1
