use Rattle.std.proofs.Common.{arith, refl}
use Rattle.board_prelude.proofs.{concat, bytes_of, byte}
use Rattle.dram_store.proofs.ConcatLemmas.{AreWritten, bank_written, lost, aligned_fits}
use Rattle.dram_store.proofs.DramLemmas.{stored}
use Rattle.dram_store.proofs.dram.Dram.write.Goals as goal
use Rattle.dram_store.proofs.dram.Dram.write.Goals.{in-Some, in_default}

-- the bytes after the write, and how many they are
written : (c : goal.Joined-get_mut) → AreWritten c.args.self.now c.args.addr (bytes_of c.args.width) (byte c.args.value)
    (concat c.match-get_mut.self-inside.banks.items)
written c =
    elim c.match-get_mut.branch [
      | in-Some w ↦
          rw (w.self-inside-is, ← c.self.view_is)
          (bank_written _ _ _ _ _ (byte c.args.value) c.self.invariant.each
          (omega (arith, w.in-Some.ensures.variant.0 refl)) w.in-Some.ensures.value w.write.ensures.length
          (aligned_fits c.args.addr c.args.width c.requires.aligned) w.write.ensures.bytes)
      | in_default w ↦
          rw (w.self-inside-is, ← c.self.view_is)
          (lost _ _ _ (byte c.args.value) c.self.invariant.each w.in_default.ensures.item.3)
    ]

pub returns-clause-bytes : goal.returns-clause-bytes
returns-clause-bytes c = (written c).0

pub returns-clause-size : goal.returns-clause-size
returns-clause-size c = (written c).1

pub returns-clause-stored : goal.returns-clause-stored
returns-clause-stored c = λ setup history entry.
    stored setup history entry _ c.args.addr c.args.width c.args.value _ (written c).0 (written c).1
