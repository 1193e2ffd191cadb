use Rattle.std.proofs.Common.{◌∙◌, refl}
use Rattle.board_devices.proofs.DeviceLemmas.{port_asked, read_as, lined_as}
use Rattle.board_devices.proofs.StandingLines.{still_as}
use Rattle.board_devices.proofs.devices.Devices.read.Goals as goal

pub returns-then-moved-clause-devices : goal.returns-then-moved-clause-devices
returns-then-moved-clause-devices c = λ setup history entry is reaches reads.
    lined_as (port_asked reaches) is tt tt (c.read_port-value.ensures.after ∙ read_as reaches reads c.args.self.now)
    c.settle.ensures.others c.settle.ensures.pair

-- no line moved
pub returns-else-moved-clause-devices : goal.returns-else-moved-clause-devices
returns-else-moved-clause-devices c = λ setup history entry is reaches reads routes.
    still_as reaches is c.requires.port (rw reads refl)
    (c.read_port-value.ensures.after ∙ read_as reaches reads c.args.self.now)
    (c.moved.ensures.level c.if-moved.false ∙ c.driven-before.ensures.level)
