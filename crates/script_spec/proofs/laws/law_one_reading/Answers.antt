use Rattle.script_spec.proofs.ReadingLaws.{not_both, one_refusal}
use Rattle.script_spec.proofs.ReadingExists.{some_reading}
use Rattle.script_spec.proofs.laws.law_one_reading.Goals as goal

pub returns : goal.returns
returns c = record { some = some_reading; not_both = not_both; one = one_refusal }
