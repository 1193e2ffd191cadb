-- The phases so far are done, and their map writes noted.
use Rattle.std.proofs.Common.{◌+◌, ◌≤◌, length}
use Rattle.board_spec.specs.OrderLaws.{in_file_order}
use Rattle.script_spec.specs.Phases.{lists_of}
use Rattle.command_texts.specs.Done.{DidStatements}
use Rattle.command_texts.specs.Writes.{AreWritesOf}
use Rattle.command_texts.proofs.Done.{said_before}
use Rattle.command_texts.proofs.writes.replay_noting.Given as goal

abbrev pub invariant-loop-phase : goal.invariant-loop-phase
invariant-loop-phase l = record {
  done : DidStatements l.fn.board (said_before l.phase-items l.phase-index) l.board;
  room :
      length (in_file_order (lists_of l.phase-items)) ≤ l.board.spare + length
      (said_before l.phase-items l.phase-index);
  writes : AreWritesOf l.board.setup l.board.entries l.writes;
}
