use Rattle.board_devices.proofs.DeviceLemmas.{left_asks, left_levels, left_as, lined_as}
use Rattle.board_devices.proofs.devices.Devices.reroute.Goals as goal

pub returns-clause-devices : goal.returns-clause-devices
returns-clause-devices c = λ setup history entry is leaves.
    let old = c.args.self.now in
    let sets = left_levels leaves in
    lined_as (left_asks leaves) is sets.still (sets.room old) (left_as leaves old) c.settle.ensures.others
    c.settle.ensures.pair
