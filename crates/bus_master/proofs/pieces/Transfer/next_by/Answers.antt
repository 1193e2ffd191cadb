use Rattle.std.proofs.Common.{sym}
use Rattle.bus_master.proofs.pieces.Transfer.next_by.Goals as goal

pub returns-clause-next : goal.returns-clause-next
returns-clause-next c = λ setup bytes cells medium stands said.
    rw c.self.view_is at (c.next_piece.ensures.next setup bytes cells medium stands (rw (sym c.self.view_is) at said))
