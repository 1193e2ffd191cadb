use Rattle.board_devices.proofs.devices.Devices.apply.Goals as goal

pub returns-in-Pulses-clause-devices : goal.returns-in-Pulses-clause-devices
returns-in-Pulses-clause-devices c = λ setup history entry are asks before after.
    c.pulses.ensures.devices setup history entry are (rw (c.in-Pulses.is) at asks) before
