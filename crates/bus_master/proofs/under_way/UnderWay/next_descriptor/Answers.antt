use Rattle.std.proofs.Common.{ap}
use Rattle.bus_master.specs.Transfer.{TransferPlace}
use Rattle.bus_master.proofs.PieceLemmas.{ends_at_base}
use Rattle.bus_master.proofs.under_way.UnderWay.next_descriptor.Goals as goal

pub returns-in-Ok-clause-next : goal.returns-in-Ok-clause-next
returns-in-Ok-clause-next c = λ setup bytes direction lba words cells medium stands passed.
    let table = ap (λ (p : TransferPlace). p.table) c.self.view_is in
    c.next_count.ensures.next setup bytes direction lba words cells medium stands passed
    (rw table at (c.in-Ok.ensures.end setup bytes stands))

pub returns-in-Err-clause-next : goal.returns-in-Err-clause-next
returns-in-Err-clause-next c = λ setup bytes direction lba words cells medium stands passed.
    let table = ap (λ (p : TransferPlace). p.table) c.self.view_is in
    ends_at_base _ _ _ cells _ passed _ c.requires.used (rw table at (c.in-Err.ensures.end setup bytes stands))
