use Rattle.board_laws.proofs.PicLaws.{specific_ends_one}
use Rattle.board_laws.proofs.machines.specific_end_ends_one.Goals as goal

pub returns : goal.returns
returns c = specific_ends_one
