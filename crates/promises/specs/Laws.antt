-- What one may expect of the headline itself.
use Rattle.std.specs.Prelude.{ℕ, ◌≡◌, ◌↔◌, ◌≤◌, List, length, reverse, Option, Some, None}
use Rattle.board_spec.specs.declared.event.Entry.{Entry}
use Rattle.board_spec.specs.declared.event.Statement.{Statement}
use Rattle.board_spec.specs.Setup.{Setup, IsRomSize, IsDiskSize}
use Rattle.board_spec.specs.Orders.{IsCompleteFor}
use Rattle.run_order.specs.Places.{AreAllInPlace}
use Rattle.script_spec.specs.ScriptText.{Script, IsScriptText}
use Rattle.promises.specs.Headline.{Each, IsPlaced, IsHeadline, InFileOrder, InRunOrder}
use Rattle.command_words.specs.Words.{Replay, Run, Check}
use Rattle.command_files.specs.declared.status.Status.TheVariants.{Done}
use Rattle.command_files.specs.Asked.{AsksFor}
use Rattle.promises.specs.Accepted.{IsAccepted}

-- it can be met: each script has a log that meets it, in the file's order; and one of a run
abbrev pub SomeReplayLog : Type 0
SomeReplayLog =
    (files : List ℕ → List ℕ) (name : List ℕ) (script : Script) → IsScriptText (files name) script →
    (log : List ℕ) × IsHeadline InFileOrder files name log

abbrev pub SomeRunLog : Type 0
SomeRunLog =
    (files : List ℕ → List ℕ) (name : List ℕ) (script : Script) → IsScriptText (files name) script →
    (log : List ℕ) × IsHeadline InRunOrder files name log

-- each look of a run has its place exactly where the order that `run` makes of its phases gives it one
abbrev pub PlacesAreThoseOfRuns : Type 0
PlacesAreThoseOfRuns =
    (setup : Setup) (phases : List (List Statement)) (history : List Entry) → IsCompleteFor phases history →
    Each (λ before entry. IsPlaced setup phases before entry.actor entry.event entry.reply) history
    ↔ AreAllInPlace setup (reverse phases) history

-- it leaves `replay` no choice of its text
abbrev pub OneReplayLog : Type 0
OneReplayLog =
    (files : List ℕ → List ℕ) (name left right : List ℕ) → IsHeadline InFileOrder files name left →
    IsHeadline InFileOrder files name right → left ≡ right

-- what `replay` and `run` put is what `check` accepts
abbrev pub ReplaysAreAccepted : Type 0
ReplaysAreAccepted =
    (files : List ℕ → List ℕ) (name log : List ℕ) → IsHeadline InFileOrder files name log → IsAccepted files name log

abbrev pub RunsAreAccepted : Type 0
RunsAreAccepted =
    (files : List ℕ → List ℕ) (name log : List ℕ) → IsHeadline InRunOrder files name log → IsAccepted files name log

-- and what it accepts is just that of which the headline of `run` holds, but for the places of the looks
abbrev pub AcceptedAreLogged : Type 0
AcceptedAreLogged =
    (files : List ℕ → List ℕ) (name log : List ℕ) →
    IsAccepted files name log ↔ IsHeadline (λ setup. IsCompleteFor) files name log

-- ---- where `done` is asked for, in the words of the files alone

abbrev pub IsGoodDisk : (files : List ℕ → List ℕ) → Option (List ℕ) → Type 0
IsGoodDisk files None = Unit {0}
IsGoodDisk files (Some disk) = (length (files disk) ≤ 0x200_0000) × IsDiskSize (length (files disk))

-- a file spells this script, whose images have sizes that images can have; and all are within their limits
pub record AreGood (files : List ℕ → List ℕ) (name : List ℕ) (script : Script) : Type 0 where
  pub fits : length (files name) ≤ 0x100_0000
  pub spelled : IsScriptText (files name) script
  pub rom_fits : length (files script.rom) ≤ 0x8_0000
  pub rom : IsRomSize (length (files script.rom))
  pub disk : IsGoodDisk files script.disk

-- of good files `replay` and `run` are to be done, and `check` exactly where it accepts the log
pub record IsToBeDone (files : List ℕ → List ℕ) (name : List ℕ) : Type 0 where
  pub replay : AsksFor (Replay name) files Done
  pub run : AsksFor (Run name) files Done
  pub check :
      (log : List ℕ) → length (files log) ≤ 0x400_0000 →
      AsksFor (Check name log) files Done ↔ IsAccepted files name (files log)

abbrev pub GoodFilesAreDone : Type 0
GoodFilesAreDone =
    (files : List ℕ → List ℕ) (name : List ℕ) (script : Script) → AreGood files name script → IsToBeDone files name
