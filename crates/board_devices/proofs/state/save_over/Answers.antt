use Rattle.std.proofs.Common.{◌∙◌, sym}
use Rattle.byte_fields.proofs.Numbers.{some_is}
use Rattle.board_devices.proofs.state.save_over.Goals as goal

pub save_state-requires : goal.save_state-requires
save_state-requires c = record { same = some_is _ _ c.requires.same ∙ sym c.sectors.ensures.whole }
