use Rattle.board_chipset.proofs.PortSteps.{no_chip, read_stays}
use Rattle.board_chipset.proofs.ports.read.Goals as goal

pub returns-clause-board : goal.returns-clause-board
returns-clause-board c = λ setup history entry kept is.
    read_stays c.requires.reads (no_chip c.args.target c.requires.device) kept is
