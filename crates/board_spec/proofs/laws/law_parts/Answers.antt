use Rattle.board_spec.proofs.PartLawProofs.{cut_into_parts}
use Rattle.board_spec.proofs.laws.law_parts.Goals as goal

pub returns : goal.returns
returns c = record { cut = cut_into_parts }
