use Rattle.std.proofs.Common.{length, arith}
use Rattle.phase_threads.proofs.run.run_any.Goals as goal

pub run_alone-requires-clause-below : goal.run_alone-requires-clause-below
run_alone-requires-clause-below g c κs within =
    c.in-Some.ensures.below (length c.args.run.works.items) (omega (arith, c.requires.can.some))
    (λ k d less. (c.requires.can.in_range k d less).actor)
