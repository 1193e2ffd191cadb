use Rattle.board_chipset.proofs.Lefts.{left_by, state_of}
use Rattle.board_chipset.proofs.chipset.Chipset.look.Goals as goal

pub returns-clause-left : goal.returns-clause-left
returns-clause-left c = λ history entry left event.
    rw (← c.self.view_is) (left_by (c.look.ensures.board _ history entry (state_of c.self.view_is left) event))

pub returns-clause-held : goal.returns-clause-held
returns-clause-held c =
    rw (← c.self.view_is) (λ bytes holds. (c.look.ensures.span _ bytes holds.map, c.look.ensures.version))
