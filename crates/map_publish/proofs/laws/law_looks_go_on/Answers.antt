use Rattle.map_publish.proofs.Looks.{looks_go_on}
use Rattle.map_publish.proofs.laws.law_looks_go_on.Goals as goal

pub returns : goal.returns
returns c = record { goes_on = looks_go_on }
