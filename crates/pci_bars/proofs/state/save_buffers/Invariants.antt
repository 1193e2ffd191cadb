use Rattle.std.proofs.Common.{◌≡◌, ◌++◌, drop}
use Rattle.pci_bars.specs.State.{contents_bytes}
use Rattle.pci_bars.proofs.ContentsLemmas.{lists}
use Rattle.pci_bars.proofs.state.save_buffers.Given as goal

abbrev pub invariant-loop-buffer : goal.invariant-loop-buffer
invariant-loop-buffer l =
    l.into.items ++ contents_bytes (lists (drop l.buffer-index l.buffers))
    ≡ l.fn.into.items ++ contents_bytes (lists l.buffers)
