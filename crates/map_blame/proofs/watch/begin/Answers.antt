use Rattle.std.proofs.Common.{◌∷◌, [], get_or, sym, ◌∙◌, ap, ◌++◌}
use Rattle.board_prelude.proofs.{map-append, take_more, All-push, registers_after}
use Rattle.map_builder.specs.declared.range.Range.{Range}
use Rattle.map_builder.specs.Find.{no_range}
use Rattle.map_blame.specs.Watch.{IsWatched}
use Rattle.map_blame.proofs.WatchLemmas.{watched_at_reset, watched_range}
use Rattle.map_blame.proofs.watch.begin.Goals as goal

pub loop-range-preserved : goal.loop-range-preserved
loop-range-preserved c =
    let range : Range = get_or c.args.ranges.now c.loop-range.range-index no_range in
    rw c.in_ok-push.ensures.items (record {
      ranges = map-append watched_range c.loop-range.watched.items _
          ∙ ap (λ ranges. ranges ++ range ∷ []) c.loop-range.invariant.ranges
          ∙ sym (take_more c.args.ranges.now c.loop-range.range-index no_range c.loop-range-test.true);
      watched = λ setup start.
          All-push (IsWatched setup []) c.loop-range.watched.items _ (c.loop-range.invariant.watched setup start)
          (watched_at_reset _ _ _ (λ is. c.stands.ensures.yes is setup (registers_after setup []) start)
          (λ is. c.stands.ensures.no is setup (registers_after setup []) start));
    })
