-- The statements so far are done, and have their lines.
use Rattle.std.proofs.Common.{ℕ, ◌≡◌, ◌+◌, ◌++◌, List, take, string_bytes}
use Rattle.board_prelude.specs.{Statement}
use Rattle.command_texts.specs.ReplayLog.{HasLog}
use Rattle.command_texts.proofs.replay_log.push_phase.Given as goal

abbrev pub invariant-loop-statement : goal.invariant-loop-statement
invariant-loop-statement l = record {
  setup : l.replay.chipset.setup ≡ l.fn.replay.chipset.setup;
  count : l.replay.count ≡ l.fn.replay.count + l.statement-index;
  log : (version : ℕ) (said : List Statement) → HasLog version l.fn.replay said (string_bytes l.fn.text) →
      HasLog version l.replay (said ++ take l.statement-index l.phase) (string_bytes l.text);
}
