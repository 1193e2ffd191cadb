use Rattle.map_publish.proofs.sight.Sight.take_in.Goals as goal

pub returns-clause-map : goal.returns-clause-map
returns-clause-map c setup bytes stands = rw (c.copy_over-self-inside.ensures.copied, c.ranges-2.ensures.ranges)
    (c.ranges-2.ensures.map setup bytes stands)
