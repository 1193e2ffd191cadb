-- How the program ends.
use Rattle.std.specs.Prelude.{ℕ, ◌≡◌, ◌↔◌, List, [], Option, Some, None, Result, Ok, Err}
use Rattle.board_outside.specs.Outside.{Rose, Fetch}
use Rattle.command_words.specs.Words.{Command, command_of}
use Rattle.command_files.specs.declared.status.Status.{Status}
use Rattle.command_files.specs.declared.status.Status.TheVariants.{Done, Usage, WriteFault}
use Rattle.command_files.specs.Status.{code_of}
use Rattle.command_files.specs.Known.{Files}
use Rattle.command_files.specs.Outcomes.{ShelfCall}
use Rattle.command_files.specs.Calls.{AreFetchesOf}
use Rattle.board_commands.specs.Outcomes.{SinkCall, IsCaused, IsExact}
use Rattle.board_main.specs.declared.answers.OwnAnswer.{OwnAnswer}
use Rattle.board_main.specs.declared.line.WordFault.{WordFault}
use Rattle.board_main.specs.Given.{AreRead, status_of_words}
use Rattle.board_main.specs.Outputs.{IsIdle, TookAll, TookFront, IsTold}
use Rattle.board_main.specs.Own.{own_of, own_text}

-- ---- the words

-- a status is the board's answer to a command
pub record EndsCommand (status : Status) (command : Option Command) (shelf : ShelfCall) (sink : SinkCall) : Type 0 where
  pub caused : IsCaused status command shelf sink
  pub exact :
      IsExact status command shelf.files
      (¬ Rose shelf.faults_before shelf.faults_now) (¬ Rose sink.faults_before sink.faults_now)

-- what the program answers of itself is written whole, unless the output fails
abbrev pub IsWritten : Status → (text : List ℕ) → SinkCall → Type 0
IsWritten Done text sink = TookAll sink text
IsWritten WriteFault text sink = TookFront sink text
IsWritten _ text sink = ⊥

-- and no file is read for it
pub record EndsOwn (status : Status) (own : OwnAnswer) (shelf : ShelfCall) (sink : SinkCall) : Type 0 where
  pub written : IsWritten status (own_text own) sink
  pub unread : shelf.faults_now ≡ shelf.faults_before

-- the program's own words have an answer of its own; all others are the board's
pub record Ends (words : List (List ℕ)) (status : Status) (shelf : ShelfCall) (sink : SinkCall) : Type 0 where
  pub usage : (status ≡ Usage) ↔ ((own_of words ≡ None) × (command_of words ≡ None))
  pub own : (own : OwnAnswer) → own_of words ≡ Some own → EndsOwn status own shelf sink
  pub command : own_of words ≡ None → EndsCommand status (command_of words) shelf sink

-- the fetches for words: none for the program's own
abbrev pub AreFetchesFor : Option OwnAnswer → Option Command → Option Files → List Fetch → Type 0
AreFetchesFor None command told made = AreFetchesOf command told made
AreFetchesFor (Some own) command told made = made ≡ []

-- ---- the program

-- words that were not read have their status, and nothing else is done
abbrev pub EndsAfter : Result (List (List ℕ)) WordFault → Status → ShelfCall → SinkCall → Type 0
EndsAfter (Ok words) status shelf sink = Ends words status shelf sink
EndsAfter (Err fault) status shelf sink =
    (status ≡ status_of_words fault) × (shelf.faults_now ≡ shelf.faults_before) × IsIdle sink

-- the words that are given end with this status, and standard error is told
pub record EndsLine (given : Option (List (List ℕ))) (status : Status) (shelf : ShelfCall)
    (sink errors : SinkCall) : Type 0 where
  pub words : Result (List (List ℕ)) WordFault
  pub read : AreRead given words
  pub ends : EndsAfter words status shelf sink
  pub told : IsTold status errors

-- and with its exit code
pub record EndsProgram (given : Option (List (List ℕ))) (code : ℕ) (shelf : ShelfCall) (sink errors : SinkCall) : Type 0
  where
    pub status : Status
    pub coded : code ≡ code_of status
    pub ends : EndsLine given status shelf sink errors
