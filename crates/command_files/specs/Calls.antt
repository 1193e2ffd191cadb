-- Which fetches a command makes of a shelf. A list of calls has the latest first.
use Rattle.std.specs.Prelude.{ℕ, ◌≡◌, ◌≢◌, ◌<◌, ◌≤◌, ◌+◌, ◌++◌, ◌⊎◌, List, [], ◌∷◌, reverse, Option, Some, None, Result}
use Rattle.std.specs.Prelude.{IfOk, OnOk}
use Rattle.board_outside.specs.Outside.{Fetch, Made}
use Rattle.command_words.specs.Words.{Command}
use Rattle.command_files.specs.declared.status.Which.{Which}
use Rattle.command_files.specs.Table.{files_of, name_in_words, limit_of}
use Rattle.command_files.specs.Known.{Files, Known, ComesTo}
use Rattle.command_files.specs.Outcomes.{OfFiles, CanRead}

-- ---- where the calls are told

-- these calls were made since, and this holds of them
pub record Since {Call : Type 0} (before : List Call) (now : Option (List Call)) (P : List Call → Type 0) : Type 0 where
  pub made : List Call
  pub told : now ≡ Some (made ++ before)
  pub holds : P made

-- where the calls are told, this holds of those that were made since
abbrev pub OfCalls : {Call : Type 0} → (before now : Option (List Call)) → (List Call → Type 0) → Type 0
OfCalls None now P = Unit {0}
OfCalls (Some before) now P = Since before now P

-- ---- the fetches of one file

-- the bytes that a fetch brought: none where it failed
abbrev pub count_come : Option ℕ → ℕ
count_come None = 0
count_come (Some count) = count

-- the place in the file that the fetches reached: after the bytes that they brought
abbrev pub place_after : List Fetch → ℕ
place_after [] = 0
place_after (latest ∷ before) = place_after before + count_come latest.came

-- the latest fetch brought at least one byte: it did not fail, and did not find the end
abbrev pub BroughtBytes : List Fetch → Type 0
BroughtBytes [] = Unit {0}
BroughtBytes (latest ∷ before) = 0 < count_come latest.came

-- the latest fetch found the end of the file
abbrev pub FoundEnd : List Fetch → Type 0
FoundEnd [] = ⊥
FoundEnd (latest ∷ before) = latest.came ≡ Some 0

-- the next fetch of a file that is read from its start on: it asks for the bytes after those that came. They are within
-- the limit, and the fetch before it neither failed nor found the end
pub record ReadsOn (name : List ℕ) (limit : ℕ) (before : List Fetch) (fetch : Fetch) : Type 0 where
  pub named : fetch.name ≡ name
  pub place : fetch.at ≡ place_after before
  pub within : place_after before ≤ limit
  pub goes_on : BroughtBytes before

-- the fetches read the file of this name from its start on, each once
abbrev pub IsReading : (name : List ℕ) → (limit : ℕ) → List Fetch → Type 0
IsReading name limit [] = Unit {0}
IsReading name limit (latest ∷ before) = ReadsOn name limit before latest × IsReading name limit before

-- ---- the fetches of a command

-- a command reads the file of this name, if it comes so far: the words have the name, or the script that was read
-- before,
-- which is known where the shelf tells its files
pub record ReachesFile (command : Command) (told : Option Files) (which : Which) (name : List ℕ) : Type 0 where
  pub can_read : CanRead command which
  pub comes : OfFiles told (λ files. (known : Known) × ComesTo command files which known name)
  pub in_words : (other : List ℕ) → name_in_words command which ≡ Some other → other ≡ name

-- these fetches read the command's file of this kind, and to its end where another file was read later
pub record Reads (command : Command) (told : Option Files) (which : Which) (later made : List Fetch) : Type 0 where
  pub name : List ℕ
  pub reaches : ReachesFile command told which name
  pub reading : IsReading name (limit_of which) made
  pub whole : later ≢ [] → FoundEnd made

-- these fetches read such files, the latest first, each once or not at all, before those of later files
abbrev pub ReadEach : Command → Option Files → List Which → (later made : List Fetch) → Type 0
ReadEach command told [] later made = made ≡ []
ReadEach command told (which ∷ before) later made =
    (own : List Fetch) × (earlier : List Fetch) × (made ≡ own ++ earlier)
    × ((own ≡ []) ⊎ Reads command told which later own)
    × ReadEach command told before (later ++ own) earlier

-- the fetches of a command: its files are read in their order, each once or not at all
abbrev pub FetchesOf : Command → Option Files → List Fetch → Type 0
FetchesOf command told made = ReadEach command told (reverse (files_of command)) [] made

-- the fetches of the command that the words are: none where they are no command
abbrev pub AreFetchesOf : Option Command → Option Files → List Fetch → Type 0
AreFetchesOf None told made = made ≡ []
AreFetchesOf (Some command) told made = FetchesOf command told made

-- ---- the calls of the parts of a command

-- one fetch was made, of this file at this place. Where it did not fail, as many bytes came as are answered
pub record FetchesOnce {E : Type 0} (before now : Option (List Fetch)) (name : List ℕ) (place : ℕ)
    (result : Result ℕ E) : Type 0 where
  pub came : Option ℕ
  pub made : Made before now (record { name = name; at = place; came = came })
  pub count : IfOk result (λ count. came ≡ Some count)

-- the fetches read a file: to its end where it was taken
abbrev pub ReadsBy : {T E : Type 0} → Result T E → (name : List ℕ) → (limit : ℕ) → List Fetch → Type 0
ReadsBy result name limit made = IsReading name limit made × OnOk result (FoundEnd made)
