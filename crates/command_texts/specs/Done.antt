-- What a board did between two moments.
use Rattle.std.specs.Prelude.{◌≡◌, ◌++◌, List}
use Rattle.board_prelude.specs.{Statement, IsLegal, statements_of}
use Rattle.board_core.specs.Kept.{Standing}

-- the board did these statements in their order, and nothing else. Its history is legal where it was
pub record DidStatements (old : Standing) (statements : List Statement) (new : Standing) : Type 0 where
  pub setup : new.setup ≡ old.setup
  pub same : statements_of new.entries ≡ statements_of old.entries ++ statements
  pub legal : IsLegal old.setup old.entries → IsLegal new.setup new.entries
