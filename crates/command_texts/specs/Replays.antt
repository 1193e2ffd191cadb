-- The texts that a replay of a script gives: its log, the address map after it, the verdict on a log, and a summary.
use Rattle.std.specs.Prelude.{ℕ, ◌≡◌, ◌++◌, ◌∷◌, [], List, length, codes, decimal, Some}
use Rattle.board_prelude.specs.{Entry, line_feed, Setup, byte_of, IsReplayOf, LockLaw, log_text, MapRange, IsFlatMapOf}
use Rattle.board_prelude.specs.{map_text}
use Rattle.script_spec.specs.ScriptText.{Script as Said, IsScriptText}
use Rattle.script_spec.specs.ScriptRange.{statements_in}
use Rattle.script_spec.specs.Checks.{IsLogOf}
use Rattle.make_script.specs.MakeText.{make_text}
use Rattle.make_script.specs.Images.{rom_image, disk_image}
use Rattle.make_script.specs.Summary.{summary_of}
use Rattle.script_spec.specs.Boards.{fitted}

-- the log of the replay of a script: of the one legal history whose statements are the script's in the order of the
-- file, in which nothing outside SMM reaches SMRAM once it is locked
pub record IsReplayText (setup : Setup) (script : Said) (text : List ℕ) : Type 0 where
  pub history : List Entry
  pub replay : IsReplayOf setup (statements_in script) history
  pub locked : LockLaw setup history
  pub log : text ≡ log_text script.version history

-- the address map after that replay: the least list of ranges that says of each address what every kind of access
-- reaches there, by the registers as the history leaves them
pub record IsMapText (setup : Setup) (script : Said) (text : List ℕ) : Type 0 where
  pub history : List Entry
  pub ranges : List MapRange
  pub replay : IsReplayOf setup (statements_in script) history
  pub map : IsFlatMapOf setup (byte_of setup history) ranges
  pub lines : text ≡ map_text ranges

-- `legal` and the number of entries of the history whose log this is, which is legal and complete for a script
pub record IsLegalText (setup : Setup) (script : Said) (log text : List ℕ) : Type 0 where
  pub legal : IsLogOf setup script.version script.phases log
  pub said : text ≡ codes "legal " ++ decimal (length legal.history) ++ line_feed ∷ []

-- the summary of a history, and of the address map after it
pub record HasSummary (setup : Setup) (history : List Entry) (text : List ℕ) : Type 0 where
  pub ranges : List MapRange
  pub map : IsFlatMapOf setup (byte_of setup history) ranges
  pub lines : text ≡ summary_of setup history (length ranges)

-- the memory and the cards that a script says, with the images that are made
abbrev pub made_setup_of : Said → Setup
made_setup_of script = fitted script rom_image (Some disk_image)

-- the summary of the replay of the script of so many rounds, on a board with the images that are made for it
pub record IsMakeText (rounds : ℕ) (text : List ℕ) : Type 0 where
  pub script : Said
  pub history : List Entry
  pub says : IsScriptText (make_text rounds) script
  pub replay : IsReplayOf (made_setup_of script) (statements_in script) history
  pub summary : HasSummary (made_setup_of script) history text
