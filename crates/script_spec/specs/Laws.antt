-- What the laws say: each is proved on a function of `laws`.
use Rattle.std.specs.Prelude.{ℕ, ◌≡◌, ◌<◌, ◌^◌, ◌⊎◌, List}
use Rattle.board_prelude.specs.{Entry, Statement, Setup, line_text}
use Rattle.script_spec.specs.Grammar.{Item, HasForm}
use Rattle.script_spec.specs.ScriptText.{Script, IsScriptText, IsScriptBad}
use Rattle.script_spec.specs.ScriptRange.{IsInRangeScript}
use Rattle.script_spec.specs.WellFormed.{IsWellFormed}
use Rattle.script_spec.specs.Checks.{IsLogText, IsBadLog, DiffersAt}

-- a line says at most one thing
abbrev pub OneItem : Type 0
OneItem =
    (version : ℕ) (line : List ℕ) (item other : Item) →
    HasForm version line item → HasForm version line other → item ≡ other

-- a text says at most one script
abbrev pub OneScript : Type 0
OneScript =
    (bytes : List ℕ) (script other : Script) → IsScriptText bytes script → IsScriptText bytes other → script ≡ other

-- and is not bad then
abbrev pub NotBoth : Type 0
NotBoth = (bytes : List ℕ) (script : Script) (line why : ℕ) → IsScriptText bytes script → ¬ IsScriptBad bytes line why

-- a text is bad at one line, for one reason
abbrev pub OneRefusal : Type 0
OneRefusal =
    (bytes : List ℕ) (line why place cause : ℕ) → IsScriptBad bytes line why → IsScriptBad bytes place cause →
    (line ≡ place) × (why ≡ cause)

-- a text is a script's, or bad
abbrev pub SomeReading : Type 0
SomeReading =
    (bytes : List ℕ) →
    ((script : Script) × IsScriptText bytes script) ⊎ ((line : ℕ) × (why : ℕ) × IsScriptBad bytes line why)

-- what a text says is in range
abbrev pub ScriptsAreInRange : Type 0
ScriptsAreInRange = (bytes : List ℕ) (script : Script) → IsScriptText bytes script → IsInRangeScript script

-- a line of the log says its number, which is one of 64 bits, and its entry
abbrev pub LineSaysEntry : Type 0
LineSaysEntry =
    (version n m : ℕ) (entry other : Entry) → IsWellFormed version entry → IsWellFormed version other →
    line_text n entry ≡ line_text m other → (n < 2 ^ 64 → m < 2 ^ 64 → n ≡ m) × (entry ≡ other)

-- a log says its version and its history
abbrev pub LogSaysAll : Type 0
LogSaysAll =
    (bytes : List ℕ) (version other : ℕ) (left right : List Entry) →
    IsLogText version left bytes → IsLogText other right bytes → (version ≡ other) × (left ≡ right)

-- a text is a bad log at one line
abbrev pub OneBadLog : Type 0
OneBadLog = (bytes : List ℕ) (line place : ℕ) → IsBadLog bytes line → IsBadLog bytes place → line ≡ place

-- and differs from the logs of a script at one line
abbrev pub OneDifference : Type 0
OneDifference =
    (setup : Setup) (version : ℕ) (phases : List (List Statement)) (bytes : List ℕ) (line place : ℕ) →
    DiffersAt setup version phases bytes line → DiffersAt setup version phases bytes place → line ≡ place
