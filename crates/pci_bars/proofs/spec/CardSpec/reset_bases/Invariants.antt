use Rattle.std.proofs.Common.{◌≡◌, ℕ, ◌≤◌, length, slice_index, take}
use Rattle.board_spec.specs.RegisterTable.{base_reset}
use Rattle.pci_bars.specs.Bases.{of_base}
use Rattle.pci_bars.proofs.spec.CardSpec.reset_bases.Given as goal

abbrev pub invariant-loop-index : goal.invariant-loop-index
invariant-loop-index l = record {
  done : (k : ℕ) → slice_index l.values k ≡ of_base base_reset (take l.index l.self.bases) k;
  six : length l.values ≡ 6;
  count : length l.base-items ≤ 6;
}
