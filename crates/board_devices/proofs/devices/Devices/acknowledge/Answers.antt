use Rattle.board_devices.proofs.DeviceLemmas.{stood_as}
use Rattle.board_devices.proofs.StandingLines.{acknowledge_leaves_lines}
use Rattle.board_devices.proofs.devices.Devices.acknowledge.Goals as goal

pub returns-clause-devices : goal.returns-clause-devices
returns-clause-devices c = λ setup history entry is asks routes.
    stood_as asks (acknowledge_leaves_lines setup history entry asks) is tt c.answer-ack.ensures.after
