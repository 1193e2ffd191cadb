use Rattle.pit_8254.proofs.Pit.pulses.Given as goal

abbrev pub ghosts-pulses_by : goal.ghosts-pulses_by
ghosts-pulses_by a = record { name = a.blank.name; parts = a.blank.parts }
