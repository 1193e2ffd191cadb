use Rattle.board_devices.proofs.DeviceLemmas.{lined_as}
use Rattle.board_devices.proofs.devices.Devices.moment.Goals as goal

pub returns-clause-devices : goal.returns-clause-devices
returns-clause-devices c = λ setup history entry is asks.
    lined_as asks is tt tt c.tell.ensures.after c.settle.ensures.others c.settle.ensures.pair
