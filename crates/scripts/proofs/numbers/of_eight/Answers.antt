use Rattle.scripts.proofs.Sums.{eight_is}
use Rattle.scripts.proofs.numbers.of_eight.Goals as goal

pub returns-clause-number : goal.returns-clause-number
returns-clause-number c =
    c.if_below.ensures.number _
    (eight_is c.args.a c.args.b c.args.c c.args.d c.args.e c.args.f c.args.g c.args.h _ _ c.sum_of-high.ensures.sum
    c.sum_of-low.ensures.sum)
