use Rattle.std.proofs.Common.{refl}
use Rattle.run_log.proofs.CutLaws.{cut_part}
use Rattle.run_log.proofs.lines.bounds_of.Goals as goal

pub returns : goal.returns
returns c = record {
  bounds = λ text are. cut_part 0 c.args.ends.now text c.args.i _ _ are c.requires.within refl
      c.start_of.ensures.first c.start_of.ensures.later;
}
