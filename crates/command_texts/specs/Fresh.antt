-- A board on which nothing was done, for a script.
use Rattle.std.specs.Prelude.{◌≡◌, []}
use Rattle.board_core.specs.Kept.{Standing}
use Rattle.script_spec.specs.ScriptText.{Script as Said}
use Rattle.script_spec.specs.ScriptRange.{IsInRangeScript}

-- the script is in range, and the board is fresh, with the cards of the script
pub record IsFreshFor (script : Said) (board : Standing) : Type 0 where
  pub in_range : IsInRangeScript script
  pub cards : board.setup.cards ≡ script.cards
  pub fresh : board.entries ≡ []
