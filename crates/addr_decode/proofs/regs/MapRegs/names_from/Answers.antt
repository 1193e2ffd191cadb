use Rattle.std.proofs.Common.{arith}
use Rattle.board_base.proofs.WidthLemmas.{bytes_few}
use Rattle.addr_decode.proofs.NameLemmas.{one_more_named}
use Rattle.addr_decode.proofs.regs.MapRegs.names_from.Goals as goal

pub loop-k-preserved : goal.loop-k-preserved
loop-k-preserved c = record {
  count = omega (arith, c.loop-k.invariant.count, c.push.ensures.len);
  named =
      one_more_named _ _ _ _ _ _ (omega (arith, bytes_few c.args.width)) c.loop-k.invariant.named
      c.register_after.ensures.named c.push.ensures.items;
}
