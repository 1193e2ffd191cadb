use Rattle.std.proofs.Common.{arith}
use Rattle.std.proofs.lemmas.Bool.Decides.{nat_tests}
use Rattle.scripts.proofs.Reasons.{phase_kept}
use Rattle.scripts.proofs.reading.Reading.has_phase.Goals as goal

pub returns : goal.returns
returns c = record {
  phase = λ items is. let kept = phase_kept items c.args.self.now is in
      grind (arith, nat_tests, kept, c.is_empty.ensures);
}
