-- What a shelf tells of a command, and why a command ended before it had its text.
use Rattle.std.specs.Prelude.{◌≡◌, ◌<◌, ◌++◌, ℕ, List, ◌∷◌, length, take, Option, Some, None}
use Rattle.board_outside.specs.Outside.{Rose, OfFile}
use Rattle.script_spec.specs.ScriptText.{IsScriptBad}
use Rattle.command_words.specs.Words.{Command, Resume}
use Rattle.command_files.specs.declared.status.Which.{Which}
use Rattle.command_files.specs.declared.status.Which.TheVariants.{Script, Rom, Disk, Log, Image}
use Rattle.command_files.specs.declared.status.Status.{Status}
use Rattle.command_files.specs.declared.status.Status.TheVariants.{Done, Usage, ReadFault, WriteFault, TooLong}
use Rattle.command_files.specs.declared.status.Status.TheVariants.{BadScript, BadImage, Differs, OtherBoard, NoMemory}
use Rattle.command_files.specs.Table.{files_of, name_in_words, limit_of}
use Rattle.command_files.specs.Known.{Files}
use Rattle.command_files.specs.Asked.{ReadsFile, FitsFile, IsNoImage, AsksFor}

-- ---- what a shelf tells

-- what a shelf tells of a call: its files, its count of faults before the call and now, and the name of its last failed
-- fetch
pub record ShelfCall : Type 0 where
  pub files : Option Files
  pub faults_before : ℕ
  pub faults_now : ℕ
  pub failed_name : List ℕ

-- a call of a shelf: what it told of itself before the call, and what it tells now
abbrev pub shelf_call :
    {S : Type 0} → (told : S → Option Files) → (count : S → ℕ) → (kept : S → List ℕ) → (before now : S) → ShelfCall
shelf_call told count kept before now = record {
  files = told before;
  faults_before = count before;
  faults_now = count now;
  failed_name = kept now;
}

-- where the shelf tells its files, this holds of them
abbrev pub OfFiles : Option Files → (Files → Type 0) → Type 0
OfFiles None P = Unit {0}
OfFiles (Some files) P = P files

-- ---- which statuses a command has

-- a file of this kind is among those
abbrev pub IsAmong : Which → List Which → Type 0
IsAmong which whiches = (before later : List Which) × (whiches ≡ before ++ which ∷ later)

-- a command reads a file of this kind, if it comes so far
abbrev pub CanRead : Command → Which → Type 0
CanRead command which = IsAmong which (files_of command)

-- a file of this kind is an image, which can be bad
abbrev pub IsImageKind : Which → Type 0
IsImageKind Rom = Unit {0}
IsImageKind Disk = Unit {0}
IsImageKind Image = Unit {0}
IsImageKind _ = ⊥

abbrev pub CompareBoards : Command → Type 0
CompareBoards (Resume image script) = Unit {0}
CompareBoards _ = ⊥

-- a command can end with this status, whatever its files are
abbrev pub CanEnd : Command → Status → Type 0
CanEnd command Usage = ⊥
CanEnd command (ReadFault which) = CanRead command which
CanEnd command (TooLong which) = CanRead command which
CanEnd command (BadScript line why) = CanRead command Script
CanEnd command (BadImage which) = CanRead command which × IsImageKind which
CanEnd command (Differs line) = CanRead command Log
CanEnd command OtherBoard = CompareBoards command
CanEnd command _ = Unit {0}

-- ---- a fault of the shelf

-- a fault rose at a file to which a command comes, whose name the shelf keeps, cut to 255 bytes
pub record FailsAt (which : Which) (shelf : ShelfCall) (command : Command) : Type 0 where
  pub can_read : CanRead command which
  pub rose : Rose shelf.faults_before shelf.faults_now
  pub in_words : (name : List ℕ) → name_in_words command which ≡ Some name → shelf.failed_name ≡ take 255 name
  pub comes : OfFiles shelf.files (λ files. ReadsFile command files which (λ name _. shelf.failed_name ≡ take 255 name))

-- why a file of this name was not taken
abbrev pub IsNotTaken : Which → (name : List ℕ) → ShelfCall → Status → Type 0
IsNotTaken which name shelf (ReadFault other) =
    (other ≡ which) × Rose shelf.faults_before shelf.faults_now × (shelf.failed_name ≡ take 255 name)
IsNotTaken which name shelf (TooLong other) =
    (other ≡ which) × OfFile shelf.files name (λ file. limit_of which < length file)
IsNotTaken which name shelf (BadScript line why) =
    (which ≡ Script) × OfFile shelf.files name (FitsFile Script (λ bytes. IsScriptBad bytes line why) name)
IsNotTaken which name shelf (BadImage other) =
    (other ≡ which) × IsImageKind which × OfFile shelf.files name (FitsFile which (IsNoImage which) name)
IsNotTaken which name shelf NoMemory = Unit {0}
IsNotTaken which name shelf _ = ⊥

-- why a command ended before it had its text
abbrev pub IsRefused : Command → ShelfCall → Status → Type 0
IsRefused command shelf Done = ⊥
IsRefused command shelf Usage = ⊥
IsRefused command shelf WriteFault = ⊥
IsRefused command shelf (ReadFault which) = FailsAt which shelf command
IsRefused command shelf NoMemory = Unit {0}
IsRefused command shelf status = CanEnd command status × OfFiles shelf.files (λ files. AsksFor command files status)
