use Rattle.std.proofs.Common.{refl, arith}
use Rattle.board_prelude.proofs.{nat_tests}
use Rattle.south_bridge.proofs.IdeLemmas.{ide_stored}
use Rattle.south_bridge.proofs.ide.Ide.write.Goals as goal

pub returns-in-4 : goal.returns-in-4
returns-in-4 c = record {
  written =
      rw (← c.self.view_is, c.in-4.is, c.merged-self-inside.ensures.merged)
      (λ setup bytes is_ide. ide_stored setup bytes _ _ 0x04 _ c.ranges.byte.fits refl refl refl is_ide);
}

pub returns-in-64 : goal.returns-in-64
returns-in-64 c = record {
  written =
      rw (← c.self.view_is, c.in-64.is)
      (λ setup bytes is_ide. ide_stored setup bytes _ _ 0x40 _ c.ranges.byte.fits refl refl refl is_ide);
}

pub returns-in-65 : goal.returns-in-65
returns-in-65 c = record {
  written =
      rw (← c.self.view_is, c.in-65.is)
      (λ setup bytes is_ide. ide_stored setup bytes _ _ 0x41 _ c.ranges.byte.fits refl refl refl is_ide);
}

pub returns-in_default : goal.returns-in_default
returns-in_default c = record {
  written = λ setup bytes is_ide.
      ide_stored setup bytes _ c.args.self.now c.args.off _ c.ranges.byte.fits (grind (arith, nat_tests))
      (grind (arith, nat_tests)) (grind (arith, nat_tests)) is_ide;
}
