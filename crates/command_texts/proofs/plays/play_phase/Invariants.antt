-- The statements so far are done.
use Rattle.std.proofs.Common.{ℕ, ◌≡◌, ◌+◌, ◌++◌, List, take}
use Rattle.board_prelude.specs.{Statement}
use Rattle.command_texts.specs.Plays.{HasDone}
use Rattle.command_texts.proofs.plays.play_phase.Given as goal

abbrev pub invariant-loop-statement : goal.invariant-loop-statement
invariant-loop-statement l = record {
  setup : l.replay.chipset.setup ≡ l.fn.replay.chipset.setup;
  count : l.replay.count ≡ l.fn.replay.count + l.statement-index;
  done : (said : List Statement) → HasDone l.fn.replay said → HasDone l.replay (said ++ take l.statement-index l.phase);
}
