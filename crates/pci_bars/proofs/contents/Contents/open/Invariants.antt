use Rattle.std.proofs.Common.{map}
use Rattle.pci_bars.proofs.ContentsLemmas.{IsFilled}
use Rattle.pci_bars.proofs.contents.Contents.open.Given as goal

abbrev pub invariant-loop-slot : goal.invariant-loop-slot
invariant-loop-slot l = IsFilled l.specs l.slot (map (λ buffer. buffer.items) l.buffers.items)
