-- `tell_line`: where the event's record says none, no entry is said.
use Rattle.std.proofs.Common.{refl, sym, ◌∙◌, inl}
use Rattle.machine_records.specs.LogLines.{entry_recorded}
use Rattle.machine_records.proofs.log_line.write_line.Goals as goal

pub returns-in_default-clause-refused : goal.returns-in_default-clause-refused
unfolding entry_recorded
returns-in_default-clause-refused c = λ _. let e = sym c.event_of.ensures.said ∙ c.in_default.is in rw e (inl (refl, e))
