use Rattle.std.proofs.Common.{true, false, refl}
use Rattle.board_chipset.proofs.registers.Registers.store_change.Goals as goal

pub returns-then-touches : goal.returns-then-touches
returns-then-touches c = record {
  change = λ setup history has.
      rw (← c.touches.ensures.touched setup _ (c.regs.ensures.stand setup history has), c.if-touches.true) refl;
}

pub returns : goal.returns
returns c = record {
  change = λ setup history has.
      rw (← c.touches.ensures.touched setup _ (c.regs.ensures.stand setup history has), c.if-touches.false) refl;
}
