use Rattle.board_chipset.proofs.PortSteps.{entry_is}
use Rattle.board_chipset.proofs.ports.at_register.Goals as goal

pub returns-clause-board : goal.returns-clause-board
returns-clause-board c setup history entry kept is event said =
    c.register_value.ensures.board setup history entry kept (entry_is is event said)
