use Rattle.std.proofs.Common.{refl}
use Rattle.board_chipset.proofs.Lefts.{left_by, state_of}
use Rattle.board_chipset.proofs.chipset.Chipset.port.Goals as goal

pub access-requires-clause-kept : goal.access-requires-clause-kept
access-requires-clause-kept c = (
  c.self.inside.setup.rom,
  record { setup = c.self.inside.setup; sound = c.self.invariant; image = refl },
)

pub returns-clause-left : goal.returns-clause-left
returns-clause-left c = λ history entry left event reply.
    left_by (c.access.ensures.board _ history entry (state_of c.self.view_is left) event reply)
