use Rattle.std.proofs.Common.{refl, ap}
use Rattle.board_prelude.proofs.{Dev, Device}
use Rattle.board_chipset.proofs.PortSteps.{entry_writes, chip_reached, registers_move, chip_changed}
use Rattle.board_chipset.proofs.StateSteps.{soft}
use Rattle.board_chipset.proofs.ports.write_device.Goals as goal

pub write-requires-clause-port : goal.write-requires-clause-port
write-requires-clause-port c = chip_reached c.requires.reaching c.in_default.not-Confadd c.in_default.not-Reset

pub returns-in-Confadd-clause-board : goal.returns-in-Confadd-clause-board
returns-in-Confadd-clause-board c = λ setup history entry kept is.
    let writes = entry_writes (ap (λ (dev : Dev). Device dev) c.in-Confadd.is) c.requires.writes is in
    registers_move kept is (rw c.in-Confadd.is refl) (λ cell. refl)
    (c.write_address.ensures.registers setup history entry kept.registers writes) c.write_address.ensures.south
    (soft writes)

pub returns-in-Reset-clause-board : goal.returns-in-Reset-clause-board
returns-in-Reset-clause-board c = λ setup history entry kept is.
    c.write_control.ensures.board setup history entry kept (rw c.in-Reset.is at is)

pub returns-in_default-clause-board : goal.returns-in_default-clause-board
returns-in_default-clause-board c = λ setup history entry kept is.
    chip_changed c.in_default.not-Confadd c.in_default.not-Reset kept is
    (λ reaches. c.write.ensures.devices setup history entry kept.devices reaches c.requires.writes)
