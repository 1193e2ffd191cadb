use Rattle.board_laws.proofs.PicLaws.{non_specific_first, non_specific_none}
use Rattle.board_laws.proofs.machines.non_specific_end_ends_first.Goals as goal

pub returns : goal.returns
returns c = record { first = non_specific_first; none = non_specific_none }
