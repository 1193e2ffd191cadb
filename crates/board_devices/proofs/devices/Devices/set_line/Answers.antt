use Rattle.board_devices.proofs.DeviceLemmas.{lined_as}
use Rattle.board_devices.proofs.devices.Devices.set_line.Goals as goal

pub returns-clause-devices : goal.returns-clause-devices
returns-clause-devices c = λ setup history entry is asks.
    lined_as asks is tt (c.requires.free, c.put_line.ensures.room) c.put_line.ensures.after c.settle.ensures.others
    c.settle.ensures.pair
