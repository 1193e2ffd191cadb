use Rattle.std.proofs.Common.{refl}
use Rattle.board_chipset.proofs.Lefts.{can_do, left_by, state_of}
use Rattle.board_chipset.proofs.chipset.Chipset.outside.Goals as goal

pub answer-requires-clause-in_range : goal.answer-requires-clause-in_range
answer-requires-clause-in_range c =
    (c.self.inside.setup.rom, can_do c.self.view_is refl c.self.invariant c.requires.in_range)

pub returns-clause-left : goal.returns-clause-left
returns-clause-left c = λ history entry left event reply.
    left_by (c.answer.ensures.board _ history entry (state_of c.self.view_is left) event)
