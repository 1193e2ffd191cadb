-- A line is taken apart: the reader's way through it.
use Rattle.std.specs.Prelude.{ℕ, ◌-◌, List, length, take, Option, Some}
use Rattle.board_spec.specs.Text.{space}
use Rattle.script_spec.specs.Numbers.{parse_decimal, ◌>>=◌}
use Rattle.script_spec.specs.Cuts.{cut, if_byte}

-- `n A.S STATEMENT = REPLY`: what stands before the point, between it and the space before `=`, and after `=`
pub record Pieces : Type 0 where
  pub actor : List ℕ
  pub asked : List ℕ
  pub replied : List ℕ

abbrev pub but_last : List ℕ → List ℕ
but_last text = take (length text - 1) text

unfoldable pub parse_pieces : List ℕ → Option Pieces
parse_pieces line = do
  number ← cut space line
  actor ← cut 0x2E number.1
  asked ← cut 0x3D actor.1
  Some (record { actor = actor.0; asked = but_last asked.0; replied = asked.1 })

unfoldable pub parse_actor : List ℕ → Option ℕ
parse_actor field = do
  actor ← parse_decimal field
  if_byte actor
