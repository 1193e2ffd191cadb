use Rattle.board_laws.proofs.ResetProofs.{hard_reset_resets, hard_reset_keeps}
use Rattle.board_laws.proofs.devices.law_hard_reset.Goals as goal

pub returns : goal.returns
returns c = record { resets = hard_reset_resets; keeps = hard_reset_keeps }
