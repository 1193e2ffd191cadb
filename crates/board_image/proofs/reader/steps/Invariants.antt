-- What is still to be read, after the steps so far, is all that is read.
use Rattle.std.proofs.Common.{◌≡◌, ◌-◌}
use Rattle.board_spec.specs.Setup.{Setup}
use Rattle.board_image.specs.ImageFields.{steps_fields}
use Rattle.byte_fields.proofs.Loops.{with_front}
use Rattle.board_image.proofs.reader.steps.Given as goal

abbrev pub invariant-loop : goal.invariant-loop
invariant-loop l =
    (setup : Setup) → setup.cards ≡ l.cards →
    with_front l.steps.items (steps_fields setup (l.count - l.counter) l.fields)
    ≡ steps_fields setup l.count l.fn.fields
