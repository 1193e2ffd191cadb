use Rattle.map_builder.proofs.flat_map.FlatMap.restored.Given as goal

abbrev pub ghosts-uncounted_ranges : goal.ghosts-uncounted_ranges
ghosts-uncounted_ranges a = record { name = a.blank.name; parts = a.blank.parts }
