-- What each way out of a command says of its cause.
use Rattle.std.proofs.Common.{arith, ◌≡◌, ◌≢◌, ℕ, List, Some}
use Rattle.std.proofs.lemmas.Bool.Decides.{nat_tests}
use Rattle.board_prelude.proofs.{Appends, Keeps}
use Rattle.board_outside.specs.Outside.{Rose}
use Rattle.board_outside.specs.declared.fault.PutFault.{PutFault}
use Rattle.board_outside.specs.declared.fault.PutFault.TheVariants.{Failed, NoMemory as NoMemoryForPut}
use Rattle.command_files.specs.declared.status.Which.{Which}
use Rattle.command_files.specs.declared.status.Status.{Status}
use Rattle.command_files.specs.declared.status.Status.TheVariants.{Done, ReadFault}
use Rattle.command_words.specs.Words.{Command}
use Rattle.board_commands.specs.Texts.{IsCommandText}
use Rattle.board_commands.specs.Output.{AppendsFront}
use Rattle.board_commands.specs.Outcomes.{SinkCall, OfCommand, PutsTextFront, IsCaused}
use Rattle.command_files.specs.Outcomes.{ShelfCall, OfFiles, IsRefused}
use Rattle.command_files.specs.Statuses.{status_of_put_fault, IsRefusal}
use Rattle.command_files.proofs.Refusals.{of_files, at_files}
use Rattle.board_commands.proofs.PutLemmas.{nothing_put, put_refused}
use Rattle.command_files.proofs.CallLemmas.{none_made, calls_hold}

abbrev HidesNoFault : ShelfCall → Status → Type 0
HidesNoFault shelf status = ((which : Which) → status ≢ ReadFault which) → shelf.faults_now ≡ shelf.faults_before

module _ (command : Command) (shelf : ShelfCall) (sink : SinkCall) where
  abbrev Front : Type 0
  Front = OfCommand (Some command) shelf.files (PutsTextFront sink.taken_before sink.taken_now)

  -- a command was refused before it had its text, and nothing was put
  pub caused_refusal : (status : Status) → IsRefused command shelf status → HidesNoFault shelf status →
      sink.faults_now ≡ sink.faults_before → Keeps sink.taken_before sink.taken_now →
      IsCaused status (Some command) shelf sink
  caused_refusal status refused quiet calm keeps = grind (arith, nat_tests)

  module _ (text : List ℕ) (says : OfFiles shelf.files (λ files. IsCommandText command files text))
      (quiet : shelf.faults_now ≡ shelf.faults_before) where
    front_put : AppendsFront sink.taken_before sink.taken_now text → Front
    front_put taken = grind (arith, nat_tests, of_files, at_files)

    -- the sink did not take the whole text
    pub caused_put_fault :
        (fault : PutFault) → AppendsFront sink.taken_before sink.taken_now text →
        (fault ≡ Failed → Rose sink.faults_before sink.faults_now) →
        (fault ≡ NoMemoryForPut → sink.faults_now ≡ sink.faults_before) →
        IsCaused (status_of_put_fault fault) (Some command) shelf sink
    caused_put_fault fault taken rose calm = grind (arith, nat_tests, front_put)

    -- the sink took the whole text
    pub caused_done :
        Appends sink.taken_before sink.taken_now text → sink.faults_now ≡ sink.faults_before →
        IsCaused Done (Some command) shelf sink
    caused_done taken calm = grind (arith, nat_tests, of_files, at_files)

pub refusal_of : (command : Command) (shelf : ShelfCall) (status : Status) → IsRefused command shelf status
    → IsRefusal status
refusal_of command shelf status refused = grind (arith, nat_tests)

-- `run_command` is proved by these
pub ruleset run_command_rules = (
  caused_done,
  refusal_of,
  caused_refusal,
  caused_put_fault,
  nothing_put,
  put_refused,
  none_made,
  calls_hold,
  nat_tests,
)
