use Rattle.make_script.proofs.MadeLemmas.{made-is-in-range, statement-count, made-setup-fits}
use Rattle.make_script.proofs.laws.law_made_script.Goals as goal

pub returns : goal.returns
returns c = record { range = made-is-in-range; count = statement-count; setup = made-setup-fits }
