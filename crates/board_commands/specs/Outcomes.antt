-- What the status of a command says of the words, of the files that it read, of the outside, and of what was put.
use Rattle.std.specs.Prelude.{◌≡◌, ◌≢◌, ℕ, ◌⊎◌, List, Option, Some, None}
use Rattle.board_prelude.specs.{Appends, Keeps}
use Rattle.board_outside.specs.Outside.{Rose}
use Rattle.command_words.specs.Words.{Command}
use Rattle.command_files.specs.declared.status.Which.{Which}
use Rattle.command_files.specs.declared.status.Status.{Status}
use Rattle.command_files.specs.declared.status.Status.TheVariants.{Done, Usage, ReadFault, WriteFault, NoMemory}
use Rattle.command_files.specs.Known.{Files}
use Rattle.command_files.specs.Asked.{AsksFor}
use Rattle.command_files.specs.Outcomes.{ShelfCall, OfFiles, CanEnd, FailsAt}
use Rattle.board_commands.specs.Texts.{IsCommandText}
use Rattle.board_commands.specs.Output.{AppendsFront}

-- ---- what the outside tells

-- what a sink tells of a call: its count of faults and the bytes that it took, before the call and now
pub record SinkCall : Type 0 where
  pub faults_before : ℕ
  pub faults_now : ℕ
  pub taken_before : Option (List ℕ)
  pub taken_now : Option (List ℕ)

-- a call of a sink: what it told of itself before the call, and what it tells now
abbrev pub sink_call :
    {K : Type 0} → (count : K → ℕ) → (took : K → Option (List ℕ)) → (before now : K) → SinkCall
sink_call count took before now = record {
  faults_before = count before;
  faults_now = count now;
  taken_before = took before;
  taken_now = took now;
}

-- the words are a command; and where the shelf tells its files, this holds of both
abbrev pub OfCommand : Option Command → Option Files → (Command → Files → Type 0) → Type 0
OfCommand None told P = ⊥
OfCommand (Some command) told P = OfFiles told (P command)

-- the words are a command, the shelf tells its files, and this holds of both
abbrev pub HasCommand : Option Command → Option Files → (Command → Files → Type 0) → Type 0
HasCommand None told P = ⊥
HasCommand (Some command) None P = ⊥
HasCommand (Some command) (Some files) P = P command files

-- words can end with this status: `usage` where they are no command
abbrev pub WordsCanEnd : Option Command → Status → Type 0
WordsCanEnd None status = status ≡ Usage
WordsCanEnd (Some command) status = CanEnd command status

-- ---- what was put

-- a sink took the whole text of a command
pub record PutsText (before now : Option (List ℕ)) (command : Command) (files : Files) : Type 0 where
  pub text : List ℕ
  pub says : IsCommandText command files text
  pub taken : Appends before now text

-- a sink took a front of that text
pub record PutsTextFront (before now : Option (List ℕ)) (command : Command) (files : Files) : Type 0 where
  pub text : List ℕ
  pub says : IsCommandText command files text
  pub taken : AppendsFront before now text

-- what a command that was not done leaves at the sink: a front of its text where the sink failed, that or nothing
-- where memory ran out, and else nothing
abbrev pub Stopped : Status → (before now : Option (List ℕ)) → (Front : Type 0) → Type 0
Stopped Done before now Front = Unit {0}
Stopped WriteFault before now Front = Front
Stopped NoMemory before now Front = Keeps before now ⊎ Front
Stopped _ before now Front = Keeps before now

-- ---- the causes of each status

-- the words are a command, of which this holds
abbrev pub FailsWith : (Command → Type 0) → Option Command → Type 0
FailsWith P None = ⊥
FailsWith P (Some command) = P command

-- a status comes only where its cause holds
abbrev pub HasCause : Status → Option Command → ShelfCall → SinkCall → Type 0
HasCause Done command shelf sink = OfCommand command shelf.files (PutsText sink.taken_before sink.taken_now)
HasCause Usage command shelf sink = command ≡ None
HasCause (ReadFault which) command shelf sink = FailsWith (FailsAt which shelf) command
HasCause WriteFault command shelf sink = Rose sink.faults_before sink.faults_now
HasCause NoMemory command shelf sink = Unit {0}
HasCause status command shelf sink = OfCommand command shelf.files (λ command files. AsksFor command files status)

pub record IsCaused (status : Status) (command : Option Command) (shelf : ShelfCall) (sink : SinkCall) : Type 0 where
  pub cause : HasCause status command shelf sink
  -- it is one that the words can end with, whatever the files are
  pub possible : WordsCanEnd command status
  -- no fault of the shelf is passed over: where it counted one, the status is a read fault
  pub no_fault_hidden : ((which : Which) → status ≢ ReadFault which) → shelf.faults_now ≡ shelf.faults_before
  -- and none of the sink: where it counted one, the status is a write fault
  pub no_put_fault_hidden : status ≢ WriteFault → sink.faults_now ≡ sink.faults_before
  -- what was put before it came, where it is not done
  pub stopped :
      Stopped status sink.taken_before sink.taken_now
      (OfCommand command shelf.files (PutsTextFront sink.taken_before sink.taken_now))

-- a status is this one, unless memory ran out
abbrev pub IsOrNoMemory : Status → Status → Type 0
IsOrNoMemory status wanted = (status ≡ wanted) ⊎ (status ≡ NoMemory)

-- what must be quiet for a status to come: the shelf, and for `done` the sink too
abbrev pub IsQuietFor : Status → (quiet_shelf quiet_sink : Type 0) → Type 0
IsQuietFor Done quiet_shelf quiet_sink = quiet_shelf × quiet_sink
IsQuietFor _ quiet_shelf quiet_sink = quiet_shelf

-- a status comes wherever the words and the files ask for it, while the outside is quiet
abbrev pub IsExact : Status → Option Command → Option Files → (quiet_shelf quiet_sink : Type 0) → Type 0
IsExact status command told quiet_shelf quiet_sink =
    (wanted : Status) → HasCommand command told (λ command files. AsksFor command files wanted) →
    IsQuietFor wanted quiet_shelf quiet_sink → IsOrNoMemory status wanted
