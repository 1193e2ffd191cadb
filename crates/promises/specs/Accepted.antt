-- The headline of `check` and of `resume`, and the text of each command.
use Rattle.std.specs.Prelude.{ℕ, ◌≡◌, List, [], ◌∷◌, ◌++◌, codes, decimal, is_some, length}
use Rattle.board_spec.specs.declared.event.Entry.{Entry}
use Rattle.board_spec.specs.declared.event.Statement.{Statement}
use Rattle.board_spec.specs.Setup.{Setup}
use Rattle.board_spec.specs.Legal.{IsLegal}
use Rattle.board_spec.specs.Orders.{IsCompleteFor, statements_of}
use Rattle.board_spec.specs.LogText.{log_text}
use Rattle.board_spec.specs.OrderLaws.{in_file_order}
use Rattle.board_spec.specs.Text.{line_feed}
use Rattle.script_spec.specs.ScriptText.{Script, IsScriptText}
use Rattle.board_image.specs.ImageBytes.{image_bytes}
use Rattle.command_words.specs.Words.{Command, Replay, Run, Map, Check, Dma, Save, Resume, Serial, Blame}
use Rattle.command_texts.specs.Replays.{IsMapText}
use Rattle.command_texts.specs.Transfers.{IsTransferText}
use Rattle.command_texts.specs.Images.{IsSaveText}
use Rattle.command_texts.specs.Serial.{IsSerialText}
use Rattle.command_texts.specs.Blame.{IsBlameText}
use Rattle.board_commands.specs.Texts.{IsCommandText}
use Rattle.promises.specs.Headline.{IsTrueLog, IsHeadline, InRunOrder, InFileOrder, board_for}

-- of `check`: the log is that of a history of the script, which is legal and has, phase after phase, each processor's
-- statements once each in its own order
pub record IsAccepted (files : List ℕ → List ℕ) (name log : List ℕ) : Type 0 where
  pub script : Script
  pub spelled : IsScriptText (files name) script
  pub history : List Entry
  pub order : IsCompleteFor script.phases history
  pub legal : IsLegal (board_for files script) history
  pub text : log ≡ log_text script.version history

-- what is put then says how many entries there are
pub record IsVerdict (files : List ℕ → List ℕ) (name log text : List ℕ) : Type 0 where
  pub accepted : IsAccepted files name (files log)
  pub said : text ≡ codes "legal " ++ decimal (length accepted.history) ++ line_feed ∷ []

-- of `resume`: the image says a board and its statements, and the log is that of the history of these and then those of
-- the script, in their order; the script is for a board with the same memory and cards, and a disk where that has one
pub record IsResumed (files : List ℕ → List ℕ) (image name log : List ℕ) : Type 0 where
  pub setup : Setup
  pub steps : List Statement
  pub saved : files image ≡ image_bytes setup steps
  pub script : Script
  pub spelled : IsScriptText (files name) script
  pub memory : setup.mib ≡ script.mib
  pub cards : setup.cards ≡ script.cards
  pub disk : is_some setup.disk ≡ is_some script.disk
  pub said : IsTrueLog setup (λ history. statements_of history ≡ steps ++ in_file_order script.phases) 2 log

-- of the others: the file spells a script, and this holds of it and of the board that it asks for
pub record OnBoard (files : List ℕ → List ℕ) (name : List ℕ) (Holds : Setup → Script → Type 0) : Type 0 where
  pub script : Script
  pub spelled : IsScriptText (files name) script
  pub holds : Holds (board_for files script) script

-- what each command puts; that of `make` by its own definition
abbrev pub IsTextOf : (files : List ℕ → List ℕ) → Command → List ℕ → Type 0
IsTextOf files (Replay name) text = IsHeadline InFileOrder files name text
IsTextOf files (Run name) text = IsHeadline InRunOrder files name text
IsTextOf files (Check name log) text = IsVerdict files name log text
IsTextOf files (Resume image name) text = IsResumed files image name text
IsTextOf files (Map name) text = OnBoard files name (λ setup script. IsMapText setup script text)
IsTextOf files (Dma name transfer) text = OnBoard files name (λ setup script. IsTransferText setup script transfer text)
IsTextOf files (Save name) text = OnBoard files name (λ setup script. IsSaveText setup script text)
IsTextOf files (Serial name input) text =
    OnBoard files name (λ setup script. IsSerialText setup script (files input) text)
IsTextOf files (Blame name) text = OnBoard files name (λ setup script. IsBlameText setup script text)
IsTextOf files command text = IsCommandText command files text

-- it was put, whole
abbrev pub PutsText : (files : List ℕ → List ℕ) → Command → (before now : List ℕ) → Type 0
PutsText files command before now = (text : List ℕ) × IsTextOf files command text × (now ≡ before ++ text)
