use Rattle.std.proofs.Common.{refl}
use Rattle.board_chipset.proofs.PortSteps.{register_within, read_stays}
use Rattle.board_chipset.proofs.ports.register_value.Goals as goal

pub read-requires-clause-within : goal.read-requires-clause-within
read-requires-clause-within c = register_within c.requires.reaching

pub returns-clause-board : goal.returns-clause-board
returns-clause-board c = λ setup history entry kept is. read_stays c.if-access.false refl kept is
