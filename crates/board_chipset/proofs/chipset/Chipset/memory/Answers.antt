use Rattle.std.proofs.Common.{sym}
use Rattle.board_chipset.proofs.Lefts.{left_by, state_of}
use Rattle.board_chipset.proofs.chipset.Chipset.memory.Goals as goal

pub returns-clause-left : goal.returns-clause-left
returns-clause-left c = λ history entry left event reply.
    left_by
    (c.access.ensures.board _ history entry (state_of c.self.view_is left) (sym c.rom.ensures.bytes) event reply)
