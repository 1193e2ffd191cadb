-- What stands after a check.
use Rattle.std.specs.Prelude.{ℕ, ◌≡◌, ◌+◌, ◌⊎◌, ◌++◌, List, [], ◌∷◌, length}
use Rattle.board_prelude.specs.{Entry, Statement, Setup, log_text}
use Rattle.script_spec.specs.Checks.{IsLogOf}
use Rattle.log_check.specs.declared.fault.CheckFault.{CheckFault}
use Rattle.log_check.specs.declared.fault.CheckFault.TheVariants.{Differs, NoMemory}

-- the bytes are the log of a script, of this history with so many entries
pub record IsCheckedLog (setup : Setup) (version : ℕ) (phases : List (List Statement)) (bytes : List ℕ)
    (history : List Entry) (count : ℕ) : Type 0 where
  pub log : IsLogOf setup version phases bytes
  pub same : log.history ≡ history
  pub count_is : count ≡ length log.history

-- a history, or one with one entry more
abbrev pub IsAtMostNext : List Entry → List Entry → Type 0
IsAtMostNext before entries = (entries ≡ before) ⊎ ((entry : Entry) × (entries ≡ entry ∷ before))

-- the lines before this one are the heading and those of a history, and the entries are that history, with at most the
-- entry of this line after it
pub record IsAtLine (version : ℕ) (bytes : List ℕ) (entries : List Entry) (line : ℕ) : Type 0 where
  pub before : List Entry
  pub rest : List ℕ
  pub text : bytes ≡ log_text version before ++ rest
  pub place : line ≡ length before + 2
  pub stepped : IsAtMostNext before entries

-- there are no entries before the second line
abbrev pub HasStoppedAt : (version : ℕ) → (bytes : List ℕ) → List Entry → (line : ℕ) → Type 0
HasStoppedAt version bytes entries line =
    ((line ≡ 1) × (entries ≡ [])) ⊎ IsAtLine version bytes entries line

-- the entries after a check that was not passed
abbrev pub StandsAfter : (version : ℕ) → (bytes : List ℕ) → List Entry → CheckFault → Type 0
StandsAfter version bytes entries (Differs line) = HasStoppedAt version bytes entries line
StandsAfter version bytes entries NoMemory = (line : ℕ) × HasStoppedAt version bytes entries line
