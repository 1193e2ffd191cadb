use Rattle.std.proofs.Common.{refl}
use Rattle.pit_8254.proofs.Runs.{part_pulse}
use Rattle.pit_8254.proofs.counting.Counter.step.Goals as goal

pub returns-clause-part : goal.returns-clause-part
returns-clause-part g c =
    part_pulse c.args.gate c.args.self.now c.pulse.new.self c.args.run _ c.requires.some c.pulse.ensures.state refl
    (rw (c.rise.ensures.rise, ← c.self.view_is, ← c.self-2.view_is) refl)
