use Rattle.std.proofs.Common.{◌≡◌, length, take}
use Rattle.run_log.specs.Counts.{AreCountsOf}
use Rattle.run_log.proofs.counts.counts_of.Given as goal

-- those so far are counted
abbrev pub invariant-loop-actor : goal.invariant-loop-actor
invariant-loop-actor l = record {
  counts : AreCountsOf l.counts.items (take l.actor-index l.order);
  each : length l.counts.items ≡ l.processors;
}
