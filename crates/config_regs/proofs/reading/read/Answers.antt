use Rattle.std.proofs.Common.{◌∙◌}
use Rattle.board_prelude.proofs.{false≢true}
use Rattle.config_regs.proofs.reading.read.Goals as goal

pub read_from-requires-clause-function : goal.read_from-requires-clause-function
read_from-requires-clause-function c = rw c.deref.ensures.0 at c.in-Some.ensures.has

pub returns-in-Some : goal.returns-in-Some
returns-in-Some c = record { value = λ setup bytes is has exists'. c.read_from.ensures.value setup bytes is has }

pub returns-in-None : goal.returns-in-None
returns-in-None c = record {
  value = λ setup bytes is has exists'.
      absurd (false≢true (c.in-None.ensures.exists setup (rw c.deref.ensures.0 is.cards.0) ∙ exists'));
}
