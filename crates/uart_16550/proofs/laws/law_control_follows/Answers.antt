use Rattle.uart_16550.proofs.ControlProofs.{control_follows}
use Rattle.uart_16550.proofs.laws.law_control_follows.Goals as goal

pub returns : goal.returns
returns c = record { control = control_follows }
