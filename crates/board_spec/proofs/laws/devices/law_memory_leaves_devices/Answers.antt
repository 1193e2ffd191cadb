use Rattle.board_spec.proofs.DeviceProofs.{memory_leaves_devices}
use Rattle.board_spec.proofs.laws.devices.law_memory_leaves_devices.Goals as goal

pub returns : goal.returns
returns c = record { same = memory_leaves_devices c.same_levels_again.ensures }
