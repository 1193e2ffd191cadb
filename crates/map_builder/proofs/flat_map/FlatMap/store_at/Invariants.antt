use Rattle.map_builder.proofs.flat_map.FlatMap.store_at.Given as goal

abbrev pub ghosts-uncounted : goal.ghosts-uncounted
ghosts-uncounted a = record { name = a.blank.name; parts = a.blank.parts }
