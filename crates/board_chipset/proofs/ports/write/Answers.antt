use Rattle.board_chipset.proofs.PortSteps.{write_stored}
use Rattle.board_chipset.proofs.ports.write.Goals as goal

pub returns-clause-board : goal.returns-clause-board
returns-clause-board c = λ setup history entry kept is.
    write_stored c.requires.writes c.requires.device c.requires.register
    (rw c.from.ensures at c.write.ensures.put) kept is
