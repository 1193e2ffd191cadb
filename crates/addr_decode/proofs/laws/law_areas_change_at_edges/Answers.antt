use Rattle.addr_decode.proofs.EdgeLaws.{areas_change_at_edges}
use Rattle.addr_decode.proofs.laws.law_areas_change_at_edges.Goals as goal

pub returns : goal.returns
returns c = record { equal = areas_change_at_edges }
