use Rattle.board_laws.proofs.DeviceProofs.{pulses_add}
use Rattle.board_laws.proofs.devices.law_pulses.Goals as goal

pub returns : goal.returns
returns c = record { add = pulses_add c.pulses_add_up.ensures.sum }
