-- What a command knows after one file more, also where the shelf does not tell its files; and why it stops at a file.
use Rattle.std.specs.Prelude.{ℕ, ◌≡◌, ◌≤◌, List, [], length, Result, Option, Some, None}
use Rattle.board_outside.specs.Outside.{OfFile, Fetch}
use Rattle.script_spec.specs.ScriptText.{IsScriptBad}
use Rattle.script_spec.specs.ScriptRange.{IsInRangeScript}
use Rattle.command_files.specs.declared.status.Which.{Which}
use Rattle.command_files.specs.declared.status.Which.TheVariants.{Script}
use Rattle.command_files.specs.declared.status.Status.{Status}
use Rattle.command_files.specs.declared.status.Status.TheVariants.{BadScript, BadImage, NoMemory}
use Rattle.command_files.specs.Table.{limit_of}
use Rattle.command_files.specs.Known.{Files, Known, Learns, OfScript}
use Rattle.command_files.specs.Asked.{IsNoImage}
use Rattle.command_files.specs.Outcomes.{ShelfCall, IsImageKind, IsNotTaken}
use Rattle.command_files.specs.Calls.{ReadsBy}

-- ---- the bytes of a file

-- a script that was learned is in range
abbrev pub HasRange : Which → Known → Type 0
HasRange Script known = OfScript known IsInRangeScript
HasRange _ known = Unit {0}

-- why bytes are no good file of their kind
abbrev pub IsBad : Which → (bytes : List ℕ) → Status → Type 0
IsBad which bytes (BadScript line why) = (which ≡ Script) × IsScriptBad bytes line why
IsBad which bytes (BadImage other) = (other ≡ which) × IsImageKind which × IsNoImage which bytes
IsBad which bytes NoMemory = Unit {0}
IsBad which bytes _ = ⊥

-- ---- the next file

-- the file of this name was read, and this is known then
pub record IsTaken (told : Option Files) (before : Known) (which : Which) (name : List ℕ) (now : Known) : Type 0 where
  pub bytes : List ℕ
  pub whole : OfFile told name (λ file. bytes ≡ file)
  pub fits : length bytes ≤ limit_of which
  pub learns : Learns before which bytes now
  pub range : HasRange which now

-- so it was, or there is no such file
abbrev pub IsPassed : Option Files → (before : Known) → Which → (name : Option (List ℕ)) → (now : Known) → Type 0
IsPassed told before which None now = now ≡ before
IsPassed told before which (Some name) now = IsTaken told before which name now

-- why the command stops at it
abbrev pub IsNotPassed : Which → (name : Option (List ℕ)) → ShelfCall → Status → Type 0
IsNotPassed which None shelf status = ⊥
IsNotPassed which (Some name) shelf status = IsNotTaken which name shelf status

-- the fetches read it, where there is such a file
abbrev pub ReadsNamed : {T E : Type 0} → Result T E → (name : Option (List ℕ)) → (limit : ℕ) → List Fetch → Type 0
ReadsNamed result None limit made = made ≡ []
ReadsNamed result (Some name) limit made = ReadsBy result name limit made
