use Rattle.std.proofs.Common.{◌≡◌, drop}
use Rattle.machine_records.specs.Cards.{all_said, card_said}
use Rattle.machine_records.proofs.Said.{after_these}
use Rattle.machine_records.proofs.card.cards_of.Given as goal

abbrev pub invariant-loop-record : goal.invariant-loop-record
invariant-loop-record l =
    all_said card_said l.records ≡ after_these l.cards.items (all_said card_said (drop l.record-index l.records))
