use Rattle.map_blame.proofs.CoverLemmas.{covers_of_none}
use Rattle.map_blame.proofs.covers.Covers.new.Goals as goal

pub returns : goal.returns
returns c = record { none = covers_of_none 2560 }
