use Rattle.std.proofs.Common.{◌≡◌, drop, is_some}
use Rattle.machine_records.specs.Cards.{all_said, card_said}
use Rattle.machine_records.proofs.card.are_said.Given as goal

abbrev pub invariant-loop-record : goal.invariant-loop-record
invariant-loop-record l =
    is_some (all_said card_said l.records) ≡ is_some (all_said card_said (drop l.record-index l.records))
