use Rattle.std.proofs.Common.{◌≡◌, take, length, map, true}
use Rattle.board_prelude.specs.{list_all, is_base_in_range}
use Rattle.pci_bars.specs.Bases.{base_of}
use Rattle.scripts.specs.Items.{base_said}
use Rattle.scripts.proofs.valid.valid_bases.Given as goal

-- the bases so far are in range
abbrev pub invariant-loop-field : goal.invariant-loop-field
invariant-loop-field l = record {
  count : length l.bases.items ≡ l.field-index;
  each : list_all is_base_in_range (take l.field-index (map base_said l.fields)) ≡ true;
  same : map base_of l.bases.items ≡ take l.field-index (map base_said l.fields);
}
