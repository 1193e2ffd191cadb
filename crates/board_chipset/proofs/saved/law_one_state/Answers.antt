use Rattle.board_chipset.proofs.ChipsetLoads.{one_state}
use Rattle.board_chipset.proofs.saved.law_one_state.Goals as goal

pub returns : goal.returns
returns c = record { one = one_state c.law_same_map.ensures.same }
