use Rattle.scripts.proofs.Sums.{summand_at, summand_most}
use Rattle.scripts.proofs.numbers.summand_of.Goals as goal

pub returns-clause-most : goal.returns-clause-most
returns-clause-most c = rw (summand_at c.args.byte c.ranges.byte.fits) (summand_most c.args.byte)
