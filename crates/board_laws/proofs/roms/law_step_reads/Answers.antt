use Rattle.board_laws.proofs.SaidReads.{step_reads}
use Rattle.board_laws.proofs.roms.law_step_reads.Goals as goal

pub returns : goal.returns
returns c = record { bytes = step_reads }
