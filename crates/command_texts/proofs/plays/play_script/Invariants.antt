-- The phases so far are done.
use Rattle.std.proofs.Common.{◌≡◌, length}
use Rattle.command_texts.specs.Plays.{HasDone}
use Rattle.command_texts.proofs.Done.{said_before}
use Rattle.command_texts.proofs.plays.play_script.Given as goal

abbrev pub invariant-loop-phase : goal.invariant-loop-phase
invariant-loop-phase l = record {
  setup : l.replay.chipset.setup ≡ l.fn.replay.chipset.setup;
  count : l.replay.count ≡ length (said_before l.phase-items l.phase-index);
  done : HasDone l.replay (said_before l.phase-items l.phase-index);
}
