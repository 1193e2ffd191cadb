-- What reading a log finds.
use Rattle.std.specs.Prelude.{ℕ, ◌≡◌, ◌≢◌, ◌+◌, List, [], ◌∷◌, ◌++◌, length, All, if◌then◌else◌, Option, Some, None}
use Rattle.std.specs.Prelude.{codes, bytes_eq, decimal}
use Rattle.board_prelude.specs.{Entry, line_feed, line_text, lines_text}
use Rattle.script_spec.specs.WellFormed.{IsWellFormed}
use Rattle.logs.specs.declared.fault.LogFault.{LogFault}
use Rattle.logs.specs.declared.fault.LogFault.TheVariants.{Bad, NoMemory}

-- a fault names a line that is bad
abbrev pub NamesBad : (ℕ → Type 0) → LogFault → Type 0
NamesBad IsBad (Bad line) = IsBad line
NamesBad IsBad NoMemory = Unit {0}

abbrev pub heading : (version : ℕ) → List ℕ
heading version = codes "access log " ++ decimal version

abbrev pub parse_heading : List ℕ → Option ℕ
parse_heading line =
    if bytes_eq line (codes "access log 1") then Some 1 else
    if bytes_eq line (codes "access log 2") then Some 2 else None

-- line n of the log of an entry stands first
pub record HasEntry (version n : ℕ) (rest : List ℕ) (entry : Entry) (after : List ℕ) : Type 0 where
  pub formed : IsWellFormed version entry
  pub line : rest ≡ line_text n entry ++ line_feed ∷ after

abbrev pub HasNoEntry : (version n : ℕ) → (rest : List ℕ) → Type 0
HasNoEntry version n rest = (entry : Entry) (after : List ℕ) → ¬ HasEntry version n rest entry after

-- after the heading the lines of a history stand, and then none of the next entry
pub record IsBadAfter (version : ℕ) (lines : List ℕ) (line : ℕ) : Type 0 where
  pub history : List Entry
  pub each : All (IsWellFormed version) history
  pub rest : List ℕ
  pub some : rest ≢ []
  pub cut : lines ≡ lines_text history ++ rest
  pub place : line ≡ length history + 2
  pub none : HasNoEntry version (length history + 1) rest
