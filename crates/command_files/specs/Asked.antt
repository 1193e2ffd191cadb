-- What the words and the files ask for: the status with which a command ends where no fault rises outside and memory is
-- there.
use Rattle.std.specs.Prelude.{ℕ, ◌<◌, ◌≤◌, List, length}
use Rattle.board_spec.specs.Setup.{IsRomSize, IsDiskSize}
use Rattle.script_spec.specs.ScriptText.{IsScriptBad}
use Rattle.script_spec.specs.Checks.{IsLogOf, DiffersAt}
use Rattle.board_image.specs.Laws.{IsImageOf}
use Rattle.script_spec.specs.Boards.{IsForBoard}
use Rattle.command_words.specs.Words.{Command, Check, Resume}
use Rattle.command_files.specs.declared.status.Which.{Which}
use Rattle.command_files.specs.declared.status.Which.TheVariants.{Script, Rom, Disk, Image}
use Rattle.command_files.specs.declared.status.Status.{Status}
use Rattle.command_files.specs.declared.status.Status.TheVariants.{Done, TooLong, BadScript, BadImage, Differs}
use Rattle.command_files.specs.declared.status.Status.TheVariants.{OtherBoard}
use Rattle.command_files.specs.Table.{limit_of}
use Rattle.command_files.specs.Known.{Files, Known, AllRead, ComesTo, board_of, OfScript, OfImage}

-- ---- a file that is refused

-- a command comes to a file of which this holds
pub record ReadsFile (command : Command) (files : Files) (which : Which) (P : (name bytes : List ℕ)
    → Type 0) : Type 0 where
  pub known : Known
  pub name : List ℕ
  pub comes : ComesTo command files which known name
  pub holds : P name (files name)

-- a file is within its limit, and more
pub record FitsFile (which : Which) (P : List ℕ → Type 0) (name bytes : List ℕ) : Type 0 where
  pub fits : length bytes ≤ limit_of which
  pub holds : P bytes

-- bytes are not of their kind: a ROM or a disk by its length, an image by what it says
abbrev pub IsNoImage : Which → (bytes : List ℕ) → Type 0
IsNoImage Rom bytes = ¬ IsRomSize (length bytes)
IsNoImage Disk bytes = ¬ IsDiskSize (length bytes)
IsNoImage Image bytes = ¬ IsImageOf bytes
IsNoImage _ bytes = ⊥

-- ---- once all files were read

-- the log is that of a legal and complete history of the script
abbrev pub LogIsLegal : Known → Type 0
LogIsLegal known = OfScript known (λ script. IsLogOf (board_of known script) script.version script.phases known.log)

-- the log first differs at this line from those of the script
abbrev pub LogDiffers : Known → (line : ℕ) → Type 0
LogDiffers known line =
    OfScript known (λ script. DiffersAt (board_of known script) script.version script.phases known.log line)

-- the board of the image is that of the script
abbrev pub BoardsAgree : Known → Type 0
BoardsAgree known = OfScript known (λ script. OfImage known (λ image. IsForBoard image.setup script))

-- and it is another
abbrev pub BoardsDiffer : Known → Type 0
BoardsDiffer known = OfScript known (λ script. OfImage known (λ image. ¬ IsForBoard image.setup script))

abbrev pub CanBeDone : Command → Known → Type 0
CanBeDone (Check script log) known = LogIsLegal known
CanBeDone (Resume image script) known = BoardsAgree known
CanBeDone _ known = Unit {0}

abbrev pub OfCheck : Command → Type 0 → Type 0
OfCheck (Check script log) P = P
OfCheck _ P = ⊥

abbrev pub OfResume : Command → Type 0 → Type 0
OfResume (Resume image script) P = P
OfResume _ P = ⊥

-- what is known asks for this status
abbrev pub EndsWith : Command → Known → Status → Type 0
EndsWith command known Done = CanBeDone command known
EndsWith command known (Differs line) = OfCheck command (LogDiffers known line)
EndsWith command known OtherBoard = OfResume command (BoardsDiffer known)
EndsWith command known _ = ⊥

-- ---- the status

-- the words and the files ask for this status. They ask for at most one
abbrev pub AsksFor : Command → Files → Status → Type 0
AsksFor command files (TooLong which) = ReadsFile command files which (λ name bytes. limit_of which < length bytes)
AsksFor command files (BadScript line why) =
    ReadsFile command files Script (FitsFile Script (λ bytes. IsScriptBad bytes line why))
AsksFor command files (BadImage which) = ReadsFile command files which (FitsFile which (IsNoImage which))
AsksFor command files status = (known : Known) × AllRead command files known × EndsWith command known status
