-- The headline: what was put once `run`, `replay`, `check` or `resume` is done. Histories have the newest entry first.
use Rattle.std.specs.Prelude.{ℕ, ◌≡◌, ◌<◌, ◌⊎◌, List, [], ◌∷◌, ◌++◌, length, option_map}
use Rattle.board_spec.specs.declared.event.Entry.{Entry}
use Rattle.board_spec.specs.declared.event.Event.{Event}
use Rattle.board_spec.specs.declared.event.Event.TheVariants.{Look as LookAt}
use Rattle.board_spec.specs.declared.event.Reply.{Reply}
use Rattle.board_spec.specs.declared.event.Reply.TheVariants.{Saw}
use Rattle.board_spec.specs.declared.event.Statement.{Statement}
use Rattle.board_spec.specs.Setup.{Setup}
use Rattle.board_spec.specs.Legal.{IsLegal}
use Rattle.board_spec.specs.Orders.{IsCompleteFor, statements_of}
use Rattle.board_spec.specs.LockLaw.{LockLaw}
use Rattle.board_spec.specs.FlatMap.{IsSpan}
use Rattle.board_spec.specs.Registers.{byte_of}
use Rattle.board_spec.specs.MapWrites.{version_of}
use Rattle.board_spec.specs.LogText.{log_text}
use Rattle.board_spec.specs.OrderLaws.{in_file_order}
use Rattle.script_spec.specs.ScriptText.{Script, IsScriptText}

-- the board that a script asks for: the memory and the cards that it says, and the files that it names
abbrev pub board_for : (files : List ℕ → List ℕ) → Script → Setup
board_for files script =
    record { mib = script.mib; cards = script.cards; rom = files script.rom; disk = option_map files script.disk }

-- this holds of each entry of a history after those before it
abbrev pub Each : (List Entry → Entry → Type 0) → List Entry → Type 0
Each P [] = Unit {0}
Each P (entry ∷ before) = P before entry × Each P before

-- a look counts the map writes before it, and gives the longest range round its address in which the registers as they
-- were written before it give one area
abbrev pub IsTrueLook : Setup → List Entry → Event → Reply → Type 0
IsTrueLook setup before (LookAt kind addr smm) (Saw look) =
    (look.version ≡ version_of setup before)
    × IsSpan setup (byte_of setup before) addr kind smm look.lo look.hi look.area
IsTrueLook setup before (LookAt kind addr smm) _ = ⊥
IsTrueLook setup before _ _ = Unit {0}

-- ---- the place of a look in a run

abbrev pub IsLook : Event → Type 0
IsLook (LookAt kind addr smm) = Unit {0}
IsLook _ = ⊥

-- here a phase begins
abbrev pub BeginsPhase : List (List Statement) → List Entry → Type 0
BeginsPhase phases before =
    (done left : List (List Statement)) × (phases ≡ done ++ left) × (length before ≡ length (in_file_order done))

-- a look stands where its phase begins, directly after its processor's own statement, or directly after the map write
-- that its version counts; looks of lower processors may stand between
abbrev pub StandsAfter : Setup → List (List Statement) → (actor version : ℕ) → List Entry → Type 0
StandsAfter setup phases actor version [] = Unit {0}
StandsAfter setup phases actor version (last ∷ before) =
    BeginsPhase phases (last ∷ before)
    ⊎ (last.actor ≡ actor)
    ⊎ ((version_of setup before < version) × (version_of setup (last ∷ before) ≡ version))
    ⊎ (IsLook last.event × (last.actor < actor) × StandsAfter setup phases actor version before)

abbrev pub IsPlaced : Setup → List (List Statement) → List Entry → (actor : ℕ) → Event → Reply → Type 0
IsPlaced setup phases before actor (LookAt kind addr smm) (Saw look) =
    StandsAfter setup phases actor look.version before
IsPlaced setup phases before actor _ _ = Unit {0}

-- ---- the orders of the statements

-- of `run`: phase after phase, each processor's statements stand once each in its own order, and each look in its place
abbrev pub InRunOrder : Setup → List (List Statement) → List Entry → Type 0
InRunOrder setup phases history =
    IsCompleteFor phases history
    × Each (λ before entry. IsPlaced setup phases before entry.actor entry.event entry.reply) history

-- of `replay`: they stand as in the file
abbrev pub InFileOrder : Setup → List (List Statement) → List Entry → Type 0
InFileOrder setup phases history = statements_of history ≡ in_file_order phases

-- ---- the texts

-- the log of a history with such an order
pub record IsTrueLog (setup : Setup) (InOrder : List Entry → Type 0) (version : ℕ) (log : List ℕ) : Type 0 where
  pub history : List Entry
  pub order : InOrder history
  -- each reply is the answer that the entries before it prescribe
  pub legal : IsLegal setup history
  pub looks : Each (λ before entry. IsTrueLook setup before entry.event entry.reply) history
  -- after the lock no access outside SMM has SMRAM as its target, until a hard reset
  pub locked : LockLaw setup history
  pub text : log ≡ log_text version history

-- of `replay` and `run`: the file of this name spells a script, and the log is that of a history of it
pub record IsHeadline (InOrder : Setup → List (List Statement) → List Entry → Type 0) (files : List ℕ → List ℕ)
    (name log : List ℕ) : Type 0 where
  pub script : Script
  pub spelled : IsScriptText (files name) script
  pub said : IsTrueLog (board_for files script) (InOrder (board_for files script) script.phases) script.version log
