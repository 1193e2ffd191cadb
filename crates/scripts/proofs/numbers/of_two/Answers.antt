use Rattle.scripts.proofs.Sums.{two_added}
use Rattle.scripts.proofs.numbers.of_two.Goals as goal

pub returns-clause-number : goal.returns-clause-number
returns-clause-number c =
    c.if_below.ensures.number _
    (two_added c.args.a c.args.b _ _ c.summand_of.ensures.summand c.summand_of-2.ensures.summand)
