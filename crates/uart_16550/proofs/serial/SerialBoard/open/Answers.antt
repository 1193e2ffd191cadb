use Rattle.std.proofs.Common.{refl}
use Rattle.board_prelude.proofs.{irq_of}
use Rattle.uart_16550.proofs.serial.SerialBoard.open.Goals as goal

pub returns-clause-left : goal.returns-clause-left
unfolding irq_of
returns-clause-left g c = rw c.new.ensures.reset (record { left = c.requires.fresh; level_is = refl; own = tt })
