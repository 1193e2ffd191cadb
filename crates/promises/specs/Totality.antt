-- Totality: how a command ends over a shelf and a sink that may fail. Each status comes only where its cause holds, and
-- comes where words and files ask for it. A list of puts has the latest first.
use Rattle.std.specs.Prelude.{ℕ, ◌≡◌, ◌≢◌, ◌⊎◌, List, [], ◌∷◌, ◌++◌, None, take}
use Rattle.board_outside.specs.Outside.{Rose, Put}
use Rattle.command_words.specs.Words.{Command, IsCommand, AreWordsOf}
use Rattle.command_files.specs.declared.status.Which.{Which}
use Rattle.command_files.specs.declared.status.Which.TheVariants.{Script, Rom, Disk, Log, Image}
use Rattle.command_files.specs.declared.status.Status.{Status}
use Rattle.command_files.specs.declared.status.Status.TheVariants.{Done, Usage, ReadFault, WriteFault, TooLong}
use Rattle.command_files.specs.declared.status.Status.TheVariants.{BadScript, BadImage, Differs, NoMemory, OtherBoard}
use Rattle.command_files.specs.Asked.{AsksFor, ReadsFile}
use Rattle.command_files.specs.Table.{files_of}
use Rattle.promises.specs.Accepted.{IsTextOf, PutsText}

-- the words are those of no command
abbrev pub AreNoCommand : (words : List (List ℕ)) → Type 0
AreNoCommand words = (command : Command) → IsCommand command → ¬ AreWordsOf words command

-- what shelf and sink tell of a call: the files and the name of the last that failed, the faults and the bytes taken
pub record Told : Type 0 where
  pub files : List ℕ → List ℕ
  pub failed_name : List ℕ
  pub read_faults_before : ℕ
  pub read_faults_now : ℕ
  pub put_faults_before : ℕ
  pub put_faults_now : ℕ
  pub before : List ℕ
  pub now : List ℕ

-- why a command ended so. A read fault comes where one rose at a file that it reads once those before it were good
abbrev pub IsCause : Command → Told → Status → Type 0
IsCause command told Done = PutsText told.files command told.before told.now
IsCause command told Usage = ⊥
IsCause command told (ReadFault which) =
    Rose told.read_faults_before told.read_faults_now
    × ReadsFile command told.files which (λ name bytes. told.failed_name ≡ take 255 name)
IsCause command told WriteFault = Rose told.put_faults_before told.put_faults_now
IsCause command told NoMemory = Unit {0}
IsCause command told status = AsksFor command told.files status

-- a front of its text was put
abbrev pub PutsFront : Command → Told → Type 0
PutsFront command told =
    (text rest : List ℕ) × IsTextOf told.files command (text ++ rest) × (told.now ≡ told.before ++ text)

-- what it leaves at the sink: a front of its text where the sink failed, that or nothing where memory ran out, and
-- nothing where it was refused
abbrev pub Leaves : Command → Told → Status → Type 0
Leaves command told Done = PutsText told.files command told.before told.now
Leaves command told WriteFault = PutsFront command told
Leaves command told NoMemory = (told.now ≡ told.before) ⊎ PutsFront command told
Leaves command told _ = told.now ≡ told.before

-- the statuses that a command can have, whatever the files are
abbrev pub IsReadBy : Command → Which → Type 0
IsReadBy command which = (before later : List Which) × (files_of command ≡ before ++ which ∷ later)

abbrev pub CanEndSo : Command → Status → Type 0
CanEndSo command Usage = ⊥
CanEndSo command (ReadFault which) = IsReadBy command which
CanEndSo command (TooLong which) = IsReadBy command which
CanEndSo command (BadScript line why) = IsReadBy command Script
CanEndSo command (BadImage which) = IsReadBy command which × ((which ≡ Rom) ⊎ (which ≡ Disk) ⊎ (which ≡ Image))
CanEndSo command (Differs line) = IsReadBy command Log
CanEndSo command OtherBoard = IsReadBy command Image
CanEndSo command _ = Unit {0}

-- the sink took bytes with each put; or with each but the latest, which it refused
abbrev pub TookEach : List Put → Type 0
TookEach [] = Unit {0}
TookEach (latest ∷ before) = (latest.took ≢ None) × TookEach before

abbrev pub RefusedLast : List Put → Type 0
RefusedLast [] = ⊥
RefusedLast (latest ∷ before) = (latest.took ≡ None) × TookEach before

-- nothing is put after a put that was refused, and nothing where a command is refused
abbrev pub ArePuts : Status → List Put → Type 0
ArePuts Done made = TookEach made
ArePuts WriteFault made = RefusedLast made
ArePuts NoMemory made = (made ≡ []) ⊎ RefusedLast made
ArePuts _ made = made ≡ []

-- a front of this text was written, or all of it
abbrev pub WritesFront : (text before now : List ℕ) → Type 0
WritesFront text before now = (front rest : List ℕ) × (text ≡ front ++ rest) × (now ≡ before ++ front)
