-- The phases so far are done, and have their lines.
use Rattle.std.proofs.Common.{◌≡◌, length, string_bytes}
use Rattle.command_texts.specs.ReplayLog.{HasLog}
use Rattle.command_texts.proofs.Done.{said_before}
use Rattle.command_texts.proofs.replay_log.push_replay.Given as goal

abbrev pub invariant-loop-phase : goal.invariant-loop-phase
invariant-loop-phase l = record {
  setup : l.replay.chipset.setup ≡ l.fn.replay.chipset.setup;
  count : l.replay.count ≡ length (said_before l.phase-items l.phase-index);
  log : HasLog l.fn.script.version l.replay (said_before l.phase-items l.phase-index) (string_bytes l.text);
}
