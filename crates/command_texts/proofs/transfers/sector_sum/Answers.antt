use Rattle.std.proofs.Common.{◌≤◌, length, ap, sym, ◌∙◌, arith, slice_index}
use Rattle.command_texts.proofs.TransferTexts.{part_added, cut_byte, cut_length}
use Rattle.command_texts.proofs.transfers.sector_sum.Goals as goal

pub sum_of-sum-requires : goal.sum_of-sum-requires
sum_of-sum-requires c = record {
  few = omega (arith, ap length c.sector.ensures.bytes, cut_length 512 c.loop-lba.lba c.args.disk.now.medium.bytes);
}

pub loop-lba-preserved : goal.loop-lba-preserved
loop-lba-preserved c =
    let bytes = c.args.disk.now.medium.bytes in
    let few : length c.sector.result.now ≤ 512 =
    omega (arith, ap length c.sector.ensures.bytes, cut_length 512 c.loop-lba.lba bytes) in
    let added = part_added 512 c.loop-lba.lba (slice_index bytes) c.sector.result.now few
    (λ k below. cut_byte 512 c.loop-lba.lba k bytes below
    ∙ ap (λ part. slice_index part k) (sym c.sector.ensures.bytes)) in
    record {
      sum = omega (arith, c.loop-lba.invariant.sum, c.sum_of-sum.ensures.sum, added);
      most = omega (arith, c.loop-lba.invariant.most, c.sum_of-sum.ensures.most);
    }
