use Rattle.bus_master.proofs.under_way.UnderWay.next_access.Goals as goal

pub returns-then-self-eq0-clause-next : goal.returns-then-self-eq0-clause-next
returns-then-self-eq0-clause-next c = λ setup bytes cells medium stands passed.
    c.next_descriptor.ensures.next setup bytes c.args.direction c.args.lba c.args.words cells medium stands passed
