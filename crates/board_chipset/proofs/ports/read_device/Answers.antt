use Rattle.std.proofs.Common.{refl}
use Rattle.board_chipset.proofs.PortSteps.{chip_reached, read_stays, chip_changed}
use Rattle.board_chipset.proofs.ports.read_device.Goals as goal

pub read-requires-in_default : goal.read-requires-in_default
read-requires-in_default c =
    record { port = chip_reached c.requires.reaching c.in_default.not-Confadd c.in_default.not-Reset }

pub returns-in-Confadd-clause-board : goal.returns-in-Confadd-clause-board
returns-in-Confadd-clause-board c = λ setup history entry kept is.
    read_stays c.requires.reads (rw c.in-Confadd.is refl) kept is

pub returns-in-Reset-clause-board : goal.returns-in-Reset-clause-board
returns-in-Reset-clause-board c = λ setup history entry kept is.
    read_stays c.requires.reads (rw c.in-Reset.is refl) kept is

pub returns-in_default-clause-board : goal.returns-in_default-clause-board
returns-in_default-clause-board c = λ setup history entry kept is.
    chip_changed c.in_default.not-Confadd c.in_default.not-Reset kept is
    (λ reaches. c.read-in_default.ensures.devices setup history entry kept.devices reaches c.requires.reads)
