-- What a command answers, from the files that it read and the text that came of them.
use Rattle.std.proofs.Common.{arith, ◌≡◌, ◌≢◌, ℕ, [], ◌∷◌, List, Some, refl, Result, Err, IfOk, IfErr}
use Rattle.std.proofs.lemmas.Bool.Decides.{nat_tests}
use Rattle.board_spec.specs.Setup.{Setup}
use Rattle.script_spec.specs.ScriptText.{Script as Said}
use Rattle.script_spec.specs.Checks.{DiffersAt}
use Rattle.log_check.specs.declared.fault.CheckFault.{CheckFault}
use Rattle.log_check.specs.declared.fault.CheckFault.TheVariants.{Differs as DiffersAtLine}
use Rattle.command_words.specs.Words.{Command, Check}
use Rattle.command_files.specs.declared.status.Which.{Which}
use Rattle.command_files.specs.declared.status.Which.TheVariants.{Script, Rom, Disk}
use Rattle.command_files.specs.declared.status.Status.{Status}
use Rattle.command_files.specs.declared.status.Status.TheVariants.{ReadFault, Differs}
use Rattle.command_files.specs.Statuses.{status_of_check_fault}
use Rattle.command_files.specs.Known.{Files, Known, AllRead, board_of}
use Rattle.command_files.specs.Asked.{CanBeDone, OfCheck, OfResume}
use Rattle.command_files.specs.Outcomes.{ShelfCall, OfFiles, CanEnd, CompareBoards, IsRefused}
use Rattle.command_files.proofs.Refusals.{of_files, at_files}
use Rattle.board_commands.specs.Texts.{IsTextFor}
use Rattle.board_commands.specs.Statuses.{HasNoText, IsAnswered}

pub refused_answer : (command : Command) (shelf : ShelfCall) (result : Result (List ℕ) Status) (status : Status) →
    result ≡ Err status → IsRefused command shelf status →
    (((which : Which) → status ≢ ReadFault which) → shelf.faults_now ≡ shelf.faults_before) →
    IsAnswered command shelf result
refused_answer command shelf result status is refused quiet = grind (arith, nat_tests)

-- ---- after the files were read

-- a command that can differ reads a log
log_is_read : (command : Command) (P : Type 0) → OfCheck command P → CanEnd command (Differs 0)
log_is_read (Check script log) P is = (Script ∷ Rom ∷ Disk ∷ [], [], refl)
log_is_read _ P is = absurd is

boards_compared : (command : Command) (P : Type 0) → OfResume command P → CompareBoards command
boards_compared command P is = grind (arith, nat_tests)

module _ (command : Command) (shelf : ShelfCall) (known : Known)
    (read : OfFiles shelf.files (λ files. AllRead command files known)) where
  asked_at_end :
      (P : Files → Type 0) → ((files : Files) → AllRead command files known → P files) → OfFiles shelf.files P
  asked_at_end P each = grind (arith, nat_tests)

  -- the text stopped
  pub stopped : (status : Status) → HasNoText command known status → IsRefused command shelf status
  stopped status is = grind (arith, nat_tests, log_is_read, boards_compared, asked_at_end)

  -- what a command answers whose files were read
  pub read_answer : (result : Result (List ℕ) Status) → shelf.faults_now ≡ shelf.faults_before →
      IfOk result (IsTextFor command known) → IfOk result (λ _. CanBeDone command known) →
      IfErr result (HasNoText command known) → IsAnswered command shelf result
  read_answer result quiet says done stops = grind (arith, nat_tests, stopped, of_files, at_files)

-- a log was not that of the script, or memory ran out
pub check_stopped : (known : Known) (said : Said) (setup : Setup) (bytes script log : List ℕ) →
    known.script ≡ Some said → setup ≡ board_of known said → bytes ≡ known.log → (fault : CheckFault) →
    ((line : ℕ) → fault ≡ DiffersAtLine line → DiffersAt setup said.version said.phases bytes line) →
    HasNoText (Check script log) known (status_of_check_fault fault)
check_stopped known said setup bytes script log is fits same fault differs = grind (arith, nat_tests)
