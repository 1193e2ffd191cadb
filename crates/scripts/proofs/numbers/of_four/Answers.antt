use Rattle.scripts.proofs.Sums.{four_is}
use Rattle.scripts.proofs.numbers.of_four.Goals as goal

pub returns-clause-number : goal.returns-clause-number
returns-clause-number c =
    c.if_below.ensures.number _ (four_is c.args.a c.args.b c.args.c c.args.d _ c.sum_of.ensures.sum)
