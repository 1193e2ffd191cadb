use Rattle.device_spec.proofs.PitPulses.{pulses_add_up}
use Rattle.device_spec.proofs.laws.pulses_add_up.Goals as goal

pub returns : goal.returns
returns c = record { sum = pulses_add_up }
