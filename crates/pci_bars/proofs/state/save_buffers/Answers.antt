use Rattle.std.proofs.Common.{sym}
use Rattle.pci_bars.proofs.StateFormats.{buffer_added, buffers_added}
use Rattle.pci_bars.proofs.state.save_buffers.Goals as goal

pub loop-buffer-preserved : goal.loop-buffer-preserved
loop-buffer-preserved c =
    buffer_added c.args.buffers.now c.loop-buffer.buffer-index _ _ _ _ c.loop-buffer-test.true (sym c.buffer-item.is)
    c.loop-buffer.invariant (rw c.deref.ensures.value at c.in_ok-push_memory.ensures.added)

pub returns : goal.returns
returns c = record { saved = buffers_added c.args.buffers.now _ _ _ c.loop-buffer-test.false c.loop-buffer.invariant }
