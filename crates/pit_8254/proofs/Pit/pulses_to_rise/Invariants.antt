use Rattle.pit_8254.proofs.Pit.pulses_to_rise.Given as goal

abbrev pub ghosts-pulses_to_rise_by : goal.ghosts-pulses_to_rise_by
ghosts-pulses_to_rise_by a = record { name = a.blank.name; parts = a.blank.parts }
