use Rattle.make_script.proofs.MadeLemmas.{make-text-is-script}
use Rattle.make_script.proofs.laws.law_make_text.Goals as goal

pub returns : goal.returns
returns c = record { says = make-text-is-script }
