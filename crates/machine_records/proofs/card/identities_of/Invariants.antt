use Rattle.std.proofs.Common.{◌≡◌, ◌≤◌, ◌++◌, length, drop}
use Rattle.machine_records.specs.Cards.{identities_said}
use Rattle.machine_records.proofs.card.identities_of.Given as goal

abbrev pub invariant-loop-record : goal.invariant-loop-record
invariant-loop-record l = record {
  count : length l.identities.items ≤ l.record-index;
  said : l.identities.items ++ identities_said (drop l.record-index l.records) ≡ identities_said l.records;
}
