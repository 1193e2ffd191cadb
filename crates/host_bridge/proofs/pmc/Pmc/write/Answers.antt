use Rattle.std.proofs.Common.{arith, inl, inr}
use Rattle.host_bridge.proofs.PmcLemmas.{stored_row, stored_hole, stored_nowhere}
use Rattle.host_bridge.proofs.pmc.Pmc.write.Goals as goal

pub returns-in-104 : goal.returns-in-104
returns-in-104 c = record {
  written = λ setup bytes is_pmc.
      rw (c.in-104.is, c.fdhc_after-self-inside.ensures.merged setup)
      (stored_hole setup _ _ _ _ c.ranges.byte.fits (rw (← c.self.view_is) at is_pmc));
}

pub returns-then-off-lt96 : goal.returns-then-off-lt96
returns-then-off-lt96 c = record {
  written = λ setup bytes. stored_nowhere setup bytes _ _ c.args.byte c.ranges.byte.fits (inl (omega arith));
}

pub returns-else-off-lt104 : goal.returns-else-off-lt104
returns-else-off-lt104 c = record {
  written = λ setup bytes. stored_nowhere setup bytes _ _ c.args.byte c.ranges.byte.fits (inr (omega arith));
}

pub returns-in-96-to-103 : goal.returns-in-96-to-103
returns-in-96-to-103 c = record {
  written = λ setup bytes is_pmc.
      stored_row setup bytes _ _ c.from.result _ _ (omega arith) c.self.told (omega arith) c.ranges.byte.fits
      (rw (← c.self.view_is) at is_pmc);
}
