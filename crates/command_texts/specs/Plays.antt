-- The statements that a board without its history has done.
use Rattle.std.specs.Prelude.{◌≡◌, List}
use Rattle.board_prelude.specs.{Entry, Statement, statements_of}
use Rattle.board_core.specs.Kept.{Playing, HasPlayed}

-- it has played a history whose statements these are, in their order
pub record HasDone (replay : Playing) (statements : List Statement) : Type 0 where
  pub history : List Entry
  pub played : HasPlayed replay history
  pub same : statements_of history ≡ statements
