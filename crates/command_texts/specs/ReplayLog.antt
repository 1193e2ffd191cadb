-- The log of what a replay has played so far.
use Rattle.std.specs.Prelude.{ℕ, ◌≡◌, List}
use Rattle.board_prelude.specs.{Entry, Statement, statements_of, log_text}
use Rattle.board_core.specs.Kept.{Playing, HasPlayed}

-- the text is the log of a history that the replay has played, and whose statements these are
pub record HasLog (version : ℕ) (replay : Playing) (statements : List Statement) (text : List ℕ) : Type 0 where
  pub history : List Entry
  pub played : HasPlayed replay history
  pub same : statements_of history ≡ statements
  pub log : text ≡ log_text version history
