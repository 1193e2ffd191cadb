use Rattle.std.proofs.Common.{[], ◌∷◌, refl}
use Rattle.board_prelude.proofs.{Entry, Ack}
use Rattle.board_example.proofs.monitor.acknowledged.Goals as goal

pub returns-clause-left : goal.returns-clause-left
returns-clause-left c = λ history left.
    let entry : Entry = record { actor = 0; seq = 0; event = Ack; reply = c.step.result } in
    (entry ∷ [], c.step.ensures.left history entry left refl refl)
