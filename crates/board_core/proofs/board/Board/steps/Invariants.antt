-- The statements so far are done.
use Rattle.std.proofs.Common.{◌≡◌, ◌+◌, ◌++◌, List, take}
use Rattle.board_prelude.proofs.{Entry, statements_of}
use Rattle.board_core.proofs.board.Board.steps.Given as goal

abbrev pub invariant-loop-statement : goal.invariant-loop-statement
invariant-loop-statement l = record {
  setup : l.self.setup ≡ l.fn.self.setup;
  room : l.self.spare + l.statement-index ≡ l.fn.self.spare;
  same : statements_of l.self.entries ≡ statements_of l.fn.self.entries ++ take l.statement-index l.statements;
  grows : (more : List Entry) × (l.self.entries ≡ more ++ l.fn.self.entries);
}
