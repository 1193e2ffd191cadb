use Rattle.map_builder.proofs.flat_map.FlatMap.ranges.Goals as goal

pub returns-clause-map : goal.returns-clause-map
returns-clause-map c = rw (← c.self.view_is) c.self.invariant.map

pub returns-clause-few : goal.returns-clause-few
returns-clause-few c = rw (← c.self.view_is) c.self.invariant.few
