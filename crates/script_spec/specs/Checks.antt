-- The first line by which a text is no log: of any history, or of a script.
use Rattle.std.specs.Prelude.{ℕ, ◌≡◌, ◌+◌, List, [], ◌∷◌, ◌++◌, length, All}
use Rattle.board_prelude.specs.{Entry, Statement, Setup, IsLegal, IsCompleteFor, line_feed, log_text}
use Rattle.script_spec.specs.Lines.{text_of_lines, IsOneLine}
use Rattle.script_spec.specs.ScriptText.{IsVersion}
use Rattle.script_spec.specs.WellFormed.{IsWellFormed}

-- ---- where a text leaves a kind of texts

-- a text of a kind has these lines first
pub record AreBegun (IsText : List ℕ → Type 0) (lines : List (List ℕ)) : Type 0 where
  pub later : List ℕ
  pub text : IsText (text_of_lines lines ++ later)

-- with this line the bytes leave all texts of a kind: they are none, the lines before this one begin one, and with this
-- line, where it is there and has its line feed, they begin none. There is at most one such line (`law_one_line`)
pub record LeavesAt (IsText : List ℕ → Type 0) (bytes : List ℕ) (line : ℕ) : Type 0 where
  pub before : List (List ℕ)
  pub each : All IsOneLine before
  pub rest : List ℕ
  pub cut : bytes ≡ text_of_lines before ++ rest
  pub place : line ≡ length before + 1
  pub begun : AreBegun IsText before
  pub leaves :
      (this after : List ℕ) → IsOneLine this → rest ≡ this ++ line_feed ∷ after →
      ¬ AreBegun IsText (before ++ this ∷ [])
  pub other : ¬ IsText bytes

-- ---- logs of any history

-- the text of a log in a version
pub record IsLogText (version : ℕ) (entries : List Entry) (bytes : List ℕ) : Type 0 where
  pub known : IsVersion version
  pub each : All (IsWellFormed version) entries
  pub text : bytes ≡ log_text version entries

pub record IsSomeLog (bytes : List ℕ) : Type 0 where
  pub version : ℕ
  pub entries : List Entry
  pub log : IsLogText version entries bytes

-- the first line that, with those before it, begins no log
abbrev pub IsBadLog : List ℕ → (line : ℕ) → Type 0
IsBadLog bytes line = LeavesAt IsSomeLog bytes line

-- ---- logs of a script

-- the log of a history that is legal and complete for the phases of a script of this version
pub record IsLogOf (setup : Setup) (version : ℕ) (phases : List (List Statement)) (bytes : List ℕ) : Type 0 where
  pub history : List Entry
  pub legal : IsLegal setup history
  pub complete : IsCompleteFor phases history
  pub text : bytes ≡ log_text version history

-- the first line that no such log has after the same lines
abbrev pub DiffersAt : Setup → (version : ℕ) → (phases : List (List Statement)) → List ℕ → (line : ℕ) → Type 0
DiffersAt setup version phases bytes line = LeavesAt (IsLogOf setup version phases) bytes line
