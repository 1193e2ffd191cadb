-- What each command puts.
use Rattle.std.specs.Prelude.{ℕ, ◌≡◌, List, reverse}
use Rattle.board_prelude.specs.{Entry, Setup, IsLegal, IsCompleteFor, LockLaw, log_text}
use Rattle.run_order.specs.Places.{AreAllInPlace}
use Rattle.script_spec.specs.ScriptText.{Script as Said}
use Rattle.command_texts.specs.Replays.{IsReplayText, IsMapText, IsLegalText, IsMakeText}
use Rattle.command_texts.specs.Transfers.{IsTransferText}
use Rattle.command_texts.specs.Images.{IsSaveText, IsResumeText}
use Rattle.command_texts.specs.Serial.{IsSerialText}
use Rattle.command_texts.specs.Blame.{IsBlameText}
use Rattle.command_words.specs.Words.{Command, Replay, Run, Map, Check, Make, Dma, Save, Resume, Serial, Blame}
use Rattle.command_files.specs.Known.{Files, Known, AllRead, board_of, OfScript, OfImage}
use Rattle.command_files.specs.Asked.{CanBeDone}

-- the log of a run of a script: of a legal history that has, phase by phase, each processor's statements once each in
-- its own order and each look in its place, and in which nothing outside SMM reaches SMRAM once it is locked
pub record IsRunText (setup : Setup) (script : Said) (text : List ℕ) : Type 0 where
  pub history : List Entry
  pub legal : IsLegal setup history
  pub complete : IsCompleteFor script.phases history
  pub places : AreAllInPlace setup (reverse script.phases) history
  pub locked : LockLaw setup history
  pub log : text ≡ log_text script.version history

-- a text of the script that was read, on the board that it asks for
abbrev pub OnBoard : Known → (Setup → Said → List ℕ → Type 0) → List ℕ → Type 0
OnBoard known P text = OfScript known (λ script. P (board_of known script) script text)

-- what each command puts, where this is known
abbrev pub IsTextFor : Command → Known → List ℕ → Type 0
IsTextFor (Replay script) known text = OnBoard known IsReplayText text
IsTextFor (Run script) known text = OnBoard known IsRunText text
IsTextFor (Map script) known text = OnBoard known IsMapText text
IsTextFor (Check script log) known text = OnBoard known (λ setup said. IsLegalText setup said known.log) text
IsTextFor (Make rounds) known text = IsMakeText rounds text
IsTextFor (Dma script transfer) known text = OnBoard known (λ setup said. IsTransferText setup said transfer) text
IsTextFor (Save script) known text = OnBoard known IsSaveText text
IsTextFor (Resume image script) known text =
    OfScript known (λ said. OfImage known (λ saved. IsResumeText saved said text))
IsTextFor (Serial script input) known text = OnBoard known (λ setup said. IsSerialText setup said known.input) text
IsTextFor (Blame script) known text = OnBoard known IsBlameText text

-- what each command puts, where its files are these: all are good, and nothing is asked for but that it is done
pub record IsCommandText (command : Command) (files : Files) (text : List ℕ) : Type 0 where
  pub known : Known
  pub read : AllRead command files known
  pub done : CanBeDone command known
  pub says : IsTextFor command known text
