use Rattle.std.proofs.Common.{sym}
use Rattle.board_chipset.proofs.Lefts.{can_do, left_by, state_of}
use Rattle.board_chipset.proofs.chipset.Chipset.step.Goals as goal

pub step-requires : goal.step-requires
step-requires c = record { can = can_do c.self.view_is (sym c.rom.ensures.bytes) c.self.invariant c.requires.in_range }

pub returns-clause-left : goal.returns-clause-left
returns-clause-left c = λ history entry left event reply.
    left_by (c.step.ensures.board _ history entry (state_of c.self.view_is left) (sym c.rom.ensures.bytes) event reply)
