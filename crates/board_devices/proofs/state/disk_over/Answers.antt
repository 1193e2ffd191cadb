use Rattle.board_devices.proofs.DeviceLemmas.{disk_length}
use Rattle.board_devices.proofs.state.disk_over.Goals as goal

pub load_state-requires : goal.load_state-requires
load_state-requires c = record { size = disk_length c.args.fitted.now c.requires.fits }

pub returns : goal.returns
returns c = record { filled = c.load_state.ensures.loaded.bad }
