use Rattle.std.proofs.Common.{inl, ap, Ok}
use Rattle.byte_fields.proofs.Exactly.{not_ended}
use Rattle.board_chipset.specs.Chipset.{Running}
use Rattle.uart_16550.specs.Serial.{Serial}
use Rattle.uart_16550.proofs.SerialAlone.{alone_is}
use Rattle.uart_16550.proofs.serial_state.read_alone.Goals as goal

pub returns-in_err-end-clause-exact : goal.returns-in_err-end-clause-exact
returns-in_err-end-clause-exact c = λ other same is begins.
    absurd (not_ended _ _ c.in_err-end.ensures.took
    (alone_is c.in_ok-serial.ensures.loaded other same is begins).1)

pub returns-clause-exact : goal.returns-clause-exact
returns-clause-exact c = λ other same is begins.
    inl (ap (λ (one : Serial Running). Ok one) (alone_is c.in_ok-serial.ensures.loaded other same is begins).0)
