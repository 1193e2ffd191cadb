use Rattle.std.proofs.Common.{refl}
use Rattle.board_spec.specs.RegisterTable.{host_bridge, writable_bits}
use Rattle.host_bridge.proofs.PamLemmas.{stored_byte}
use Rattle.host_bridge.proofs.pam.store_pam.Goals as goal

pub returns : goal.returns
unfolding writable_bits host_bridge
returns c = record {
  stored = λ setup bytes is.
      rw (c.merged.ensures.merged, c.from-at.ensures)
      (stored_byte setup bytes _ c.args.pam.now c.args.off c.args.byte c.told-pam c.ranges.byte.fits refl
      c.requires.offset is);
}
