use Rattle.std.proofs.Common.{◌∙◌, inl, inr, refl, sym}
use Rattle.scripts.proofs.Runs.{first_is, second_is, said_version, no_version}
use Rattle.scripts.proofs.lines.parse_first_line.Goals as goal

pub returns-then-is_word-clause-cases : goal.returns-then-is_word-clause-cases
returns-then-is_word-clause-cases c = (
  inl refl,
  said_version _ _ _ _ _ first_is c.in_ok-line.ensures.cases
      (sym c.is_word.ensures.same ∙ c.if-is_word.true),
)

pub returns-then-is_word-2-clause-cases : goal.returns-then-is_word-2-clause-cases
returns-then-is_word-2-clause-cases c = (
  inr refl,
  said_version _ _ _ _ _ second_is c.in_ok-line.ensures.cases
      (sym c.is_word-2.ensures.same ∙ c.if-is_word-2.true),
)

pub returns-clause-cases : goal.returns-clause-cases
returns-clause-cases c =
    no_version _ _ _ c.in_ok-line.ensures.cases
    (sym c.is_word.ensures.same ∙ c.if-is_word.false) (sym c.is_word-2.ensures.same ∙ c.if-is_word-2.false)
