-- What a command answers before anything is put.
use Rattle.std.specs.Prelude.{◌≡◌, ◌≢◌, ℕ, List, Result, IfOk, IfErr, OnOk}
use Rattle.command_words.specs.Words.{Command}
use Rattle.command_files.specs.declared.status.Which.{Which}
use Rattle.command_files.specs.declared.status.Status.{Status}
use Rattle.command_files.specs.declared.status.Status.TheVariants.{ReadFault, Differs, OtherBoard, NoMemory}
use Rattle.command_files.specs.Known.{Known}
use Rattle.command_files.specs.Asked.{EndsWith}
use Rattle.command_files.specs.Outcomes.{ShelfCall, OfFiles, IsRefused}
use Rattle.board_commands.specs.Texts.{IsCommandText}

-- why a command whose files were read has no text: memory ran out, or what is known asks for another end
abbrev pub HasNoText : Command → Known → Status → Type 0
HasNoText command known NoMemory = Unit {0}
HasNoText command known (Differs line) = EndsWith command known (Differs line)
HasNoText command known OtherBoard = EndsWith command known OtherBoard
HasNoText command known _ = ⊥

-- what a command answers before anything is put: its text, or why it has none. No fault of the shelf is passed over
pub record IsAnswered (command : Command) (shelf : ShelfCall) (result : Result (List ℕ) Status) : Type 0 where
  pub text : IfOk result (λ text. OfFiles shelf.files (λ files. IsCommandText command files text))
  pub refused : IfErr result (IsRefused command shelf)
  pub quiet : OnOk result (shelf.faults_now ≡ shelf.faults_before)
  pub no_fault_hidden :
      IfErr result (λ status. ((which : Which) → status ≢ ReadFault which) → shelf.faults_now ≡ shelf.faults_before)
