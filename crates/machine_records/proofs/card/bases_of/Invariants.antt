use Rattle.std.proofs.Common.{◌≡◌, length, map, drop}
use Rattle.pci_bars.specs.Bases.{base_of}
use Rattle.machine_records.specs.Cards.{all_said, base_said}
use Rattle.machine_records.proofs.Said.{after_these}
use Rattle.machine_records.proofs.card.bases_of.Given as goal

abbrev pub invariant-loop-record : goal.invariant-loop-record
invariant-loop-record l = record {
  count : length l.bases.items ≡ l.record-index;
  said :
      all_said base_said l.records
      ≡ after_these (map base_of l.bases.items) (all_said base_said (drop l.record-index l.records));
}
