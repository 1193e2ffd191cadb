use Rattle.command_texts.proofs.TextLines.{map_text-more}
use Rattle.command_texts.proofs.replay.push_map.Goals as goal

pub loop-range-preserved : goal.loop-range-preserved
loop-range-preserved c =
    map_text-more _ _ _ c.loop-range-test.true _ _ _ c.loop-range.invariant c.in_ok-push_range.ensures.appended
