-- What an output took in a call, and its faults.
use Rattle.std.specs.Prelude.{ℕ, ◌≡◌, ◌≢◌, ◌⊎◌, ◌++◌, ◌∷◌, [], List, Option, Result, Ok, Err}
use Rattle.board_prelude.specs.{Appends, Keeps, line_feed}
use Rattle.board_outside.specs.Counts.{next_fault}
use Rattle.board_files.specs.declared.out_sink.OutSink.{OutSink}
use Rattle.command_files.specs.declared.status.Status.{Status}
use Rattle.command_files.specs.declared.status.Status.TheVariants.{Done}
use Rattle.command_files.specs.FaultText.{text_of}
use Rattle.board_commands.specs.Outcomes.{SinkCall}
use Rattle.board_commands.specs.Output.{AppendsFront}

-- a call of an output over a writer whose bytes are told so
abbrev pub out_call : {W : Type 0} → (contents : W → Option (List ℕ)) → (before now : OutSink W) → SinkCall
out_call contents before now = record {
  faults_before = before.faults;
  faults_now = now.faults;
  taken_before = contents before.out;
  taken_now = contents now.out;
}

-- nothing was put
pub record IsIdle (sink : SinkCall) : Type 0 where
  pub kept : Keeps sink.taken_before sink.taken_now
  pub quiet : sink.faults_now ≡ sink.faults_before

-- a text was put whole
pub record TookAll (sink : SinkCall) (text : List ℕ) : Type 0 where
  pub taken : Appends sink.taken_before sink.taken_now text
  pub quiet : sink.faults_now ≡ sink.faults_before

-- the output failed once, and took a front of the text before
pub record TookFront (sink : SinkCall) (text : List ℕ) : Type 0 where
  pub taken : AppendsFront sink.taken_before sink.taken_now text
  pub failed : sink.faults_now ≡ next_fault sink.faults_before

-- so a text was put
abbrev pub IsPut : {T E : Type 0} → Result T E → (text : List ℕ) → SinkCall → Type 0
IsPut (Ok done) text sink = TookAll sink text
IsPut (Err fault) text sink = TookFront sink text

-- what standard error is told of a status: nothing where it is done, and else the line of its text, unless there is no
-- memory for it
pub record IsTold (status : Status) (sink : SinkCall) : Type 0 where
  pub done : status ≡ Done → IsIdle sink
  pub refused :
      status ≢ Done →
      IsIdle sink ⊎ (TookAll sink (text_of status ++ line_feed ∷ [])
      ⊎ TookFront sink (text_of status ++ line_feed ∷ []))
