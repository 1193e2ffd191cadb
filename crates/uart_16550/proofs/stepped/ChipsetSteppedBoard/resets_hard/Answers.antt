use Rattle.uart_16550.proofs.Resets.{same_when_true}
use Rattle.uart_16550.proofs.stepped.ChipsetSteppedBoard.resets_hard.Goals as goal

pub returns : goal.returns
returns c = record {
  resets = λ history left.
      let kind = c.is_hard.ensures.hard in
      let hard = c.reset_by.ensures.hard history left in
      same_when_true _ _ (λ is. hard.0 (kind.0 is), λ is. kind.1 (hard.1 is));
}
