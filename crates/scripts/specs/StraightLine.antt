-- A line that was read straight from its bytes.
use Rattle.std.specs.Prelude.{ℕ, ◌≡◌, ◌≤◌, false, List, length}
use Rattle.board_prelude.specs.{Event}
use Rattle.script_spec.specs.Grammar.{HasForm}
use Rattle.script_spec.specs.Items.{ask}
use Rattle.script_spec.specs.ScriptText.{is_skipped}

-- it asks for an event of a processor
pub record IsStraight (version : ℕ) (line : List ℕ) (actor : ℕ) (event : Event) : Type 0 where
  pub short : length line ≤ 120
  pub read : is_skipped line ≡ false
  pub has : HasForm version line (ask actor event)
