-- The phases so far are done.
use Rattle.std.proofs.Common.{◌+◌, ◌≤◌, length}
use Rattle.board_spec.specs.OrderLaws.{in_file_order}
use Rattle.script_spec.specs.Phases.{lists_of}
use Rattle.command_texts.specs.Done.{DidStatements}
use Rattle.command_texts.proofs.Done.{said_before}
use Rattle.command_texts.proofs.replay.do_statements.Given as goal

abbrev pub invariant-loop-phase : goal.invariant-loop-phase
invariant-loop-phase l = record {
  done : DidStatements l.fn.board (said_before l.phase-items l.phase-index) l.board;
  room :
      length (in_file_order (lists_of l.phase-items)) ≤ l.board.spare + length
      (said_before l.phase-items l.phase-index);
}
