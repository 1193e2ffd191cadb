use Rattle.std.proofs.Common.{arith}
use Rattle.board_prelude.proofs.{nat_tests}
use Rattle.south_bridge.proofs.PiixLemmas.{isa_stored}
use Rattle.south_bridge.proofs.piix.Piix.write_isa_bridge.Goals as goal

pub returns-then-off-eq-XBCS : goal.returns-then-off-eq-XBCS
returns-then-off-eq-XBCS c = record {
  written =
      rw (← c.self.view_is, c.if-off-eq-XBCS.true)
      (λ setup bytes.
      isa_stored setup bytes _ 0x4E _ _ c.ranges.byte.fits (c.xbcs_after-self-inside.ensures.merged setup));
}

pub returns-else-off-eq-XBCS : goal.returns-else-off-eq-XBCS
returns-else-off-eq-XBCS c = record {
  written = λ setup bytes.
      isa_stored setup bytes c.args.self.now c.args.off _ _ c.ranges.byte.fits (grind (arith, nat_tests));
}
