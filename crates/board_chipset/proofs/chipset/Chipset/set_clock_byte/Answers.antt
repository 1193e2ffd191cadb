use Rattle.board_chipset.proofs.Lefts.{left_by, state_of}
use Rattle.board_chipset.proofs.LoadSteps.{clock_set, some_clock_entries}
use Rattle.board_chipset.proofs.chipset.Chipset.set_clock_byte.Goals as goal

pub returns-clause-left : goal.returns-clause-left
returns-clause-left c = λ history later left puts.
    let kept = state_of c.self.view_is left in
    left_by (clock_set kept puts (c.set_clock_byte.ensures.devices c.self.inside.setup history later kept.devices))

pub returns-clause-goes_on : goal.returns-clause-goes_on
returns-clause-goes_on c = λ history left.
    let some = some_clock_entries history c.args.address c.args.byte in
    (some.0, returns-clause-left c history some.0 left some.1)
