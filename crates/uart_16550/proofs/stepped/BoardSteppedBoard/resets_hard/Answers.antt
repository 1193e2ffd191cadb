use Rattle.uart_16550.proofs.Resets.{same_when_true}
use Rattle.uart_16550.proofs.stepped.BoardSteppedBoard.resets_hard.Goals as goal

pub returns : goal.returns
returns c = record {
  resets = λ history is.
      rw (← is)
      (let kind = c.is_hard.ensures.hard in
      let hard = c.reset_by.ensures.hard in
      same_when_true _ _ (λ same. hard.0 (kind.0 same), λ same. kind.1 (hard.1 same)));
}
