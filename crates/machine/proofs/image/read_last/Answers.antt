use Rattle.std.proofs.Common.{[], sym, ◌∙◌, append-nil, arith}
use Rattle.uart_16550.specs.SerialState.{serial_bytes}
use Rattle.machine.proofs.Images.{last_loaded}
use Rattle.board_prelude.proofs.{nat_tests}
use Rattle.machine.proofs.image.read_last.Goals as goal

pub returns-in-Ok : goal.returns-in-Ok
returns-in-Ok c = record {
  loaded = last_loaded _ _ _ _ _ c.alone.ensures.same c.in-Ok.ensures.loaded;
  exact = λ saved is same begins.
      grind (
        arith,
        nat_tests,
        c.alone.ensures.last,
        c.in-Ok.ensures.exact saved [] is same
            (begins ∙ sym (append-nil (serial_bytes saved.serial))),
      );
}
