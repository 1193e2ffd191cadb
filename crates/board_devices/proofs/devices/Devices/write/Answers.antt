use Rattle.std.proofs.Common.{◌∙◌}
use Rattle.board_devices.proofs.DeviceLemmas.{port_asked, write_as, lined_as}
use Rattle.board_devices.proofs.StandingLines.{still_as}
use Rattle.board_devices.proofs.devices.Devices.write.Goals as goal

pub returns-then-moved-clause-devices : goal.returns-then-moved-clause-devices
returns-then-moved-clause-devices c = λ setup history entry is reaches writes.
    lined_as (port_asked reaches) is tt tt (c.write_port.ensures.after ∙ write_as reaches writes c.args.self.now)
    c.settle.ensures.others c.settle.ensures.pair

-- no line moved
pub returns-else-moved-clause-devices : goal.returns-else-moved-clause-devices
returns-else-moved-clause-devices c = λ setup history entry is reaches writes routes.
    still_as reaches is c.requires.port (rw writes (c.moved.ensures.triggers c.if-moved.false))
    (c.write_port.ensures.after ∙ write_as reaches writes c.args.self.now)
    (c.moved.ensures.level c.if-moved.false ∙ c.driven-before.ensures.level)
