use Rattle.std.proofs.Common.{arith}
use Rattle.board_devices.proofs.DeviceLemmas.{lined_as}
use Rattle.board_devices.proofs.devices.Devices.set_wire.Goals as goal

pub returns-clause-devices : goal.returns-clause-devices
returns-clause-devices c = λ setup history entry is asks.
    lined_as asks is tt (omega (arith, c.put_wire.ensures.room, c.requires.high)) c.put_wire.ensures.after
    c.settle.ensures.others c.settle.ensures.pair
