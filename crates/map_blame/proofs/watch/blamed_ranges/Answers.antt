use Rattle.std.proofs.Common.{◌≡◌, [], map, reverse, ap, ◌∙◌}
use Rattle.board_prelude.proofs.{take_at, Setup, IsCardList, registers_after}
use Rattle.std.proofs.lemmas.Result.{IfOk-weaker}
use Rattle.map_blame.specs.Report.{AreBlamed}
use Rattle.map_blame.specs.Watch.{IsAfter}
use Rattle.map_blame.proofs.WatchLemmas.{are_intervals, are_watchable, are_blamed, watched_range}
use Rattle.map_blame.proofs.watch.blamed_ranges.Goals as goal

pub begin-requires : goal.begin-requires
begin-requires c = record {
  ranges = are_intervals 0 c.ranges-2.result.now (rw c.ranges-2.ensures.ranges c.ranges-2.ensures.tiles);
}

pub watch-requires-clause-ranges : goal.watch-requires-clause-ranges
watch-requires-clause-ranges c =
    rw c.deref_mut.ensures.value (are_watchable _ _ c.in_ok-watched.ensures.ranges
    (are_intervals 0 _ (rw c.ranges-2.ensures.ranges c.ranges-2.ensures.tiles)))

pub returns : goal.returns
returns c = record {
  ranges = IfOk-weaker c.all_blamed.result (λ blamed. blamed.items ≡ map (λ one. one.blamed) c.deref.result.now)
      (λ ranges. (setup : Setup) → IsCardList setup.cards → IsAfter setup [] c.args.map →
      AreBlamed setup (reverse c.args.changes.now) ranges.items)
      (λ ranges items setup cards start.
      let changes = reverse c.args.changes.now in
      let new = c.watch.new.watched in
      let lent = c.deref_mut.ensures.value in
      rw (items, c.deref.ensures.value, take_at new _ _ (c.watch.ensures.length ∙ c.deref_mut.ensures.len))
      (are_blamed _ _ _ _ _ (ap (map watched_range) lent ∙ c.in_ok-watched.ensures.ranges) c.watch.ensures.length
      c.watch.ensures.ranges (rw c.ranges-2.ensures.ranges
      (c.ranges-2.ensures.map setup (registers_after setup changes) (c.changed_map-last.ensures.after setup start)))
      (c.watch.ensures.watched setup cards start (rw lent (c.in_ok-watched.ensures.watched setup start)))))
      c.all_blamed.ensures.blamed;
}
