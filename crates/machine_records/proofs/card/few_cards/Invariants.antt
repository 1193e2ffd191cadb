use Rattle.std.proofs.Common.{◌≡◌, length, drop}
use Rattle.machine_records.specs.Cards.{all_said, card_said}
use Rattle.machine_records.proofs.Said.{after_these}
use Rattle.machine_records.proofs.card.few_cards.Given as goal

abbrev pub invariant-loop-record : goal.invariant-loop-record
invariant-loop-record l = record {
  count : length l.cards.items ≡ l.record-index;
  said : all_said card_said l.records ≡ after_these l.cards.items (all_said card_said (drop l.record-index l.records));
}
