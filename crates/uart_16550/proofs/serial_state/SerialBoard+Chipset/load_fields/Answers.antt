use Rattle.uart_16550.proofs.SerialStates.{loads_both, port_is_bad}
use Rattle.uart_16550.proofs.serial_state.SerialBoard+Chipset.load_fields.Goals as goal

pub returns-in-Ok : goal.returns-in-Ok
returns-in-Ok c = record {
  loaded = loads_both _ _ _ _ _ c.in_ok-board.ensures.loaded _ c.in-Ok.ensures.loaded;
}

pub returns-in-Err : goal.returns-in-Err
returns-in-Err c = record {
  loaded = port_is_bad _ _ _ _ _ c.in_ok-board.ensures.loaded _ c.in-Err.ensures.loaded;
}
