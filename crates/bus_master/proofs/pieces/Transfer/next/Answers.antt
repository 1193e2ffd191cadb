use Rattle.std.proofs.Common.{sym}
use Rattle.bus_master.proofs.pieces.Transfer.next.Goals as goal

pub returns-clause-next : goal.returns-clause-next
returns-clause-next c = λ setup bytes cells stands.
    c.next_by.ensures.next setup bytes cells _ stands
    (λ some. sym (rw c.sector.ensures.sector at c.is_readable.ensures.readable))
