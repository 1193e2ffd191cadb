use Rattle.board_prelude.proofs.{nat_tests, common_steps}
use Rattle.std.proofs.Common.{arith}
use Rattle.scripts.proofs.NumberLemmas.{number_below, number_fits, goes_on, stops, ends}
use Rattle.scripts.proofs.numbers.parse_digits.Goals as goal

pub overflow_mul-number : goal.overflow_mul-number
overflow_mul-number c =
    let fits = number_fits _ _ 0 _ _ _ c.loop-byte.invariant.below c.requires.some (omega arith) c.requires.fits in
    omega (arith, fits)

pub overflow_add-number : goal.overflow_add-number
overflow_add-number c =
    let fits = number_fits _ _ _ _ _ _ c.loop-byte.invariant.below c.in_ok-number.ensures.below (omega arith)
    c.requires.fits in
    omega (arith, fits)

pub loop-byte-preserved : goal.loop-byte-preserved
loop-byte-preserved c = grind (arith, nat_tests, common_steps, number_below, goes_on)

pub returns-in_err-number-clause-number : goal.returns-in_err-number-clause-number
returns-in_err-number-clause-number c =
    rw c.from_residual.ensures (stops c.args.base c.loop-byte.number c.loop-byte.byte-index c.args.field.now _
    (omega arith) c.in_err-number.ensures.digit c.loop-byte.invariant.kept)

pub returns-clause-number : goal.returns-clause-number
returns-clause-number c =
    ends c.args.base c.loop-byte.number c.loop-byte.byte-index c.args.field.now _ (omega arith)
    c.loop-byte.invariant.kept
