use Rattle.board_devices.proofs.devices.Devices.open.Goals as goal

pub returns-clause-fresh : goal.returns-clause-fresh
returns-clause-fresh c = λ setup fitted. c.at_power_on.ensures.fresh setup (c.in_ok-disk.ensures.fresh setup fitted)
