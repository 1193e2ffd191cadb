use Rattle.std.proofs.Common.{arith}
use Rattle.board_prelude.proofs.{Bytes, bytes_few}
use Rattle.addr_decode.proofs.StandsLemmas.{none_stored, one_more_stored, whole}
use Rattle.addr_decode.proofs.StoreLemmas.{byte_in_list}
use Rattle.south_bridge.specs.Piix.{piix_register}
use Rattle.config_regs.specs.Config.{IsSouthOf}
use Rattle.config_regs.proofs.SouthStores.{south_agrees}
use Rattle.config_regs.proofs.south.South.store_bytes.Goals as goal

pub loop-index-init : goal.loop-index-init
loop-index-init c = record {
  stored = λ setup bytes is.
      none_stored (λ (b : Bytes). IsSouthOf b c.args.self.now) setup bytes (piix_register c.args.fun c.args.off) _ is;
}

pub loop-index-preserved : goal.loop-index-preserved
loop-index-preserved c =
    let few = bytes_few c.args.width in
    let this = byte_in_list c.args.value c.loop-index.index _ _ c.from.ensures (omega arith)
    c.to_le_bytes-bytes.ensures in
    record {
      stored = λ setup bytes is.
          one_more_stored (λ (b : Bytes). IsSouthOf b c.write.new.self) setup bytes _ _ _ _ this
          (c.write.ensures.written setup _ (c.loop-index.invariant.stored setup bytes is));
    }

pub returns : goal.returns
returns c = record {
  stored = λ setup bytes is.
      south_agrees _ _ _ (λ fun off. whole setup bytes _ c.args.width c.args.value _ (omega arith)
      (piix_register fun off)) (c.loop-index.invariant.stored setup bytes is);
}
