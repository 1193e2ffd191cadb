use Rattle.std.proofs.Common.{◌+◌, arith, lit<}
use Rattle.board_prelude.proofs.{length-map, length-append}
use Rattle.map_builder.specs.Ranges.{range_of}
use Rattle.map_builder.proofs.RebuildLemmas.{kept_first, kept_later}
use Rattle.map_builder.proofs.build.keep.Goals as goal

pub range_at-last-requires-clause-room : goal.range_at-last-requires-clause-room
range_at-last-requires-clause-room c =
    omega (arith, c.requires.kept.built.few c.requires.kept.board, length-map c.args.ranges.now.items range_of)

pub returns-then-until-here : goal.returns-then-until-here
returns-then-until-here c = record {
  built = λ regs built agrees.
      kept_first _ _ _ _ (omega arith) (omega (arith, c.requires.order)) agrees c.index_from-index.ensures.holds
      c.range_at-last.ensures.goes_on built _ (omega (arith, c.requires.order)) (omega arith) (omega arith);
}

pub push-requires : goal.push-requires
push-requires c =
    let kept = c.requires.kept in
    let built = kept_first c.args.after c.args.until _ _ (omega arith) (omega (arith, c.requires.order)) kept.agrees
    c.index_from-index.ensures.holds c.range_at-last.ensures.goes_on kept.built (c.args.after + 1) (omega arith)
    (omega (arith, c.requires.order)) c.index_from-index.ensures.holds.below in
    (lit< tt, omega (arith, built.few kept.board, length-map c.range_at-last.new.ranges.items range_of))

pub extend-requires : goal.extend-requires
extend-requires c =
    let kept = c.requires.kept in
    let built = kept_later c.args.after c.args.until _ _ (omega arith) (omega (arith, c.requires.order)) kept.agrees
    c.index_from-index.ensures.holds c.range_at-last.ensures.goes_on kept.built c.index_from-end.result (omega arith)
    c.index_from-end.ensures.from c.index_from-end.ensures.holds in
    let few = simp (length-append, length-map) at (built.few kept.board) in
    (lit< tt, simp (c.push.ensures.items, length-append) (omega (arith, few)))

pub returns : goal.returns
returns c = record {
  built = λ regs first agrees. rw (c.extend.ensures.items, c.push.ensures.items) (kept_later _ _ _ _ (omega arith)
      (omega (arith, c.requires.order)) agrees c.index_from-index.ensures.holds c.range_at-last.ensures.goes_on first _
      (omega arith) c.index_from-end.ensures.from c.index_from-end.ensures.holds);
}
