use Rattle.make_script.proofs.CountLemmas.{kinds-add-up}
use Rattle.make_script.proofs.laws.law_summary.Goals as goal

pub returns : goal.returns
returns c = record { total = kinds-add-up }
