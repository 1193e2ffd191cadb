use Rattle.std.proofs.Common.{rules, ◌≡◌, ◌<◌, ◌^◌, List, length, take, reverse, arith}
use Rattle.board_prelude.proofs.{length-reverse, common_steps, Entry}
use Rattle.logs.proofs.Lines.{reverse-take_more}
use Rattle.make_script.proofs.CountLemmas.{counts-room}
use Rattle.make_script.proofs.summary.counts_of.Goals as goal

pub with-counts-requires : goal.with-counts-requires
with-counts-requires c =
    let so_far : List Entry = take c.loop-i.i c.args.entries.now in
    let fits : length c.args.entries.now < 2 ^ 64 = search rules in
    let less : c.loop-i.i < length c.args.entries.now = omega (arith, c.loop-i-test.true, c.len-i-end.ensures.length) in
    let count : length (reverse so_far) ≡ c.loop-i.i = grind (arith, common_steps, less, length-reverse so_far) in
    record { room = counts-room _ c.loop-i.counts c.loop-i.invariant (omega (arith, fits, count, less)) }

pub loop-i-preserved : goal.loop-i-preserved
loop-i-preserved c =
    let less : c.loop-i.i < length c.args.entries.now = omega (arith, c.loop-i-test.true, c.len-i-end.ensures.length) in
    rw (reverse-take_more c.args.entries.now c.loop-i.i c.entry.result less, c.entry.ensures.entry c.entry.result)
    (c.with-counts.ensures.counts _ c.loop-i.invariant)
