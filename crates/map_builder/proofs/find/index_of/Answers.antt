use Rattle.std.proofs.Common.{◌/◌, arith}
use Rattle.map_builder.proofs.FindLemmas.{search_begins, search_taken, search_left}
use Rattle.map_builder.proofs.find.index_of.Goals as goal
use Rattle.map_builder.proofs.find.index_of.Goals.{then-ranges-index, else-ranges-index}

pub loop-left-init : goal.loop-left-init
loop-left-init c = search_begins c.args.ranges.now c.requires.tiles c.args.addr (omega arith)

pub loop-left-preserved : goal.loop-left-preserved
loop-left-preserved c =
    let left = c.loop-left.left in
    let more = c.loop-left-test.true in
    elim c.if-ranges-index.branch [
      | then-ranges-index w ↦
          rw w.index-is
          (search_taken _ c.requires.tiles _ _ left (left / 2) (omega arith) c.loop-left.invariant
          w.if-ranges-index.true)
      | else-ranges-index w ↦
          rw w.index-is
          (search_left _ c.requires.tiles _ _ left (left / 2) (omega arith) (omega arith) (omega arith)
          c.loop-left.invariant (omega (arith, w.if-ranges-index.false)))
    ]
