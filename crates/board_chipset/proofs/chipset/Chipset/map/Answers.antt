use Rattle.board_chipset.proofs.Lefts.{state_of}
use Rattle.board_chipset.proofs.chipset.Chipset.map.Goals as goal

pub returns-clause-map : goal.returns-clause-map
returns-clause-map c = λ history left.
    let registers = (state_of c.self.view_is left).registers in
    rw (← c.self.view_is) (registers.flat _ _ registers.kept.map)
