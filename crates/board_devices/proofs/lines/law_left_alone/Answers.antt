use Rattle.board_devices.proofs.DeviceLemmas.{leaves_devices}
use Rattle.board_devices.proofs.lines.law_left_alone.Goals as goal

pub returns : goal.returns
returns c = record { left = leaves_devices }
