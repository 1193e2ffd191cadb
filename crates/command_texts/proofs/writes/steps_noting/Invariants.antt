-- The statements so far are done, and their map writes noted.
use Rattle.std.proofs.Common.{◌≡◌, ◌+◌, take}
use Rattle.command_texts.specs.Done.{DidStatements}
use Rattle.command_texts.specs.Writes.{AreWritesOf}
use Rattle.command_texts.proofs.writes.steps_noting.Given as goal

abbrev pub invariant-loop-statement : goal.invariant-loop-statement
invariant-loop-statement l = record {
  done : DidStatements l.fn.board (take l.statement-index l.statements) l.board;
  spare : l.board.spare + l.statement-index ≡ l.fn.board.spare;
  writes : AreWritesOf l.board.setup l.board.entries l.writes;
}
