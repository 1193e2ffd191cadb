use Rattle.std.proofs.Common.{rules, append_assoc}
use Rattle.std.proofs.lemmas.Result.{IfOk-equal}
use Rattle.board_chipset.specs.ChipsetState.{chipset_bytes}
use Rattle.board_chipset.proofs.chipset.Chipset.save_state.Goals as goal

pub returns-clause-saved : goal.returns-clause-saved
unfolding chipset_bytes
returns-clause-saved c = rw (← c.self.view_is) (search (rules, IfOk-equal, append_assoc))
