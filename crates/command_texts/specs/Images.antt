-- What `save` and `resume` put: the image of a board, and the log of a board that goes on from its image.
use Rattle.std.specs.Prelude.{ℕ, ◌≡◌, ◌++◌, List}
use Rattle.board_prelude.specs.{Entry, Setup, IsReplayOf, statements_of, LockLaw, log_text}
use Rattle.script_spec.specs.ScriptText.{Script as Said}
use Rattle.script_spec.specs.ScriptRange.{statements_in}
use Rattle.board_image.specs.ImageBytes.{Saved, image_bytes}

-- the image of a board after the replay of a script: its setup, and the statements of its history, which are the
-- script's in the order of the file. The replies follow from these
pub record IsSaveText (setup : Setup) (script : Said) (text : List ℕ) : Type 0 where
  pub history : List Entry
  pub replay : IsReplayOf setup (statements_in script) history
  pub image : text ≡ image_bytes setup (statements_of history)

-- a log of this version can say every step of an image, whatever the version of the script
abbrev pub resumed_version : ℕ
resumed_version = 2

-- the log of a board that was saved and goes on: of the one legal history, on the board of the image, whose statements
-- are the steps of the image and then the script's in the order of the file. In it nothing outside SMM reaches SMRAM
-- once it is locked
pub record IsResumeText (saved : Saved) (script : Said) (text : List ℕ) : Type 0 where
  pub history : List Entry
  pub replay : IsReplayOf saved.setup (saved.steps ++ statements_in script) history
  pub locked : LockLaw saved.setup history
  pub log : text ≡ log_text resumed_version history
