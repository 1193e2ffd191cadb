-- What is still to be read, after the cards so far, is all that is read.
use Rattle.std.proofs.Common.{◌≡◌, ◌-◌, ◌≤◌}
use Rattle.board_spec.specs.Limits.{most_card_memory}
use Rattle.board_image.specs.ImageFields.{cards_fields}
use Rattle.byte_fields.proofs.Loops.{with_front}
use Rattle.board_image.proofs.card_reader.cards.Given as goal

abbrev pub invariant-loop : goal.invariant-loop
invariant-loop l = record {
  read :
      with_front l.cards.items (cards_fields l.outside (l.count - l.counter) l.above l.room l.fields)
      ≡ cards_fields l.outside l.count 1 most_card_memory l.fn.fields;
  above : l.above ≤ 9;
}
