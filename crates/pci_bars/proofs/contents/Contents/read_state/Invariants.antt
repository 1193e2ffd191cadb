use Rattle.std.proofs.Common.{◌≡◌, ◌-◌, length}
use Rattle.byte_fields.proofs.Loops.{with_front}
use Rattle.pci_bars.specs.State.{slots_fields, contents_fields}
use Rattle.pci_bars.proofs.ContentsLemmas.{lists}
use Rattle.pci_bars.proofs.contents.Contents.read_state.Given as goal

abbrev pub invariant-loop-slot : goal.invariant-loop-slot
invariant-loop-slot l = record {
  read : with_front (lists l.buffers.items)
      (slots_fields l.specs l.slot (64 - l.slot) l.fields) ≡ contents_fields l.specs l.fn.fields;
  count : length l.buffers.items ≡ l.slot;
}
