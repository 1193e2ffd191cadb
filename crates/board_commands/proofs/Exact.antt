-- The status that the words and the files ask for comes, while the outside is quiet.
use Rattle.std.proofs.lemmas.Bool.Decides.{nat_tests}
use Rattle.std.proofs.Common.{◌≡◌, inl, inr, Option, Some, None, refl, arith}
use Rattle.board_outside.specs.Outside.{Rose}
use Rattle.command_files.specs.declared.status.Status.{Status}
use Rattle.command_files.specs.declared.status.Status.TheVariants.{Done, Usage, ReadFault, WriteFault, TooLong}
use Rattle.command_files.specs.declared.status.Status.TheVariants.{BadScript, BadImage, Differs, OtherBoard, NoMemory}
use Rattle.command_words.specs.Words.{Command}
use Rattle.command_files.specs.Known.{Files}
use Rattle.command_files.specs.Asked.{AsksFor}
use Rattle.command_files.specs.Outcomes.{ShelfCall, OfFiles}
use Rattle.command_files.specs.Laws.{OneStatus}
use Rattle.board_commands.specs.Outcomes.{SinkCall, PutsText, PutsTextFront, IsCaused, IsOrNoMemory, IsQuietFor}
use Rattle.board_commands.specs.Outcomes.{IsExact}
use Rattle.command_files.proofs.Refusals.{at_files}

-- the shelf is quiet wherever a status is to come
quiet_shelf_for : (wanted : Status) (quiet_shelf quiet_sink : Type 0) → IsQuietFor wanted quiet_shelf quiet_sink
    → quiet_shelf
quiet_shelf_for wanted quiet_shelf quiet_sink quiet = grind (arith, nat_tests)

module _ (one_status : OneStatus) (command : Command) (files : Files) (shelf : ShelfCall) (sink : SinkCall)
    (told : shelf.files ≡ Some files) (wanted : Status)
    (asks : AsksFor command files wanted)
    (quiet : IsQuietFor wanted (¬ Rose shelf.faults_before shelf.faults_now)
    (¬ Rose sink.faults_before sink.faults_now)) where
  abbrev Quiet : Type 0
  Quiet = ¬ Rose shelf.faults_before shelf.faults_now

  abbrev Calm : Type 0
  Calm = ¬ Rose sink.faults_before sink.faults_now

  told_of : (P : Files → Type 0) → OfFiles shelf.files P → P files
  told_of P = at_files shelf.files files P told

  same : (status : Status) → OfFiles shelf.files (λ files'. AsksFor command files' status) →
      IsOrNoMemory status wanted
  same status is = grind (arith, nat_tests, one_status, at_files)

  left : (status : Status) → IsCaused status (Some command) shelf sink → IsOrNoMemory status wanted
  left Done is =
      let puts = told_of (PutsText sink.taken_before sink.taken_now command) is.cause in
      inl (one_status command files Done wanted (puts.says.known, puts.says.read, puts.says.done) asks)
  left Usage is = let never = is.cause in absurd cc
  left (ReadFault which) is = absurd (quiet_shelf_for wanted Quiet Calm quiet is.cause.rose)
  left WriteFault is =
      let puts = told_of (PutsTextFront sink.taken_before sink.taken_now command) is.stopped in
      let done = one_status command files Done wanted (puts.says.known, puts.says.read, puts.says.done) asks in
      absurd ((rw (← done) at quiet).1 is.cause)
  left (TooLong which) is = same (TooLong which) is.cause
  left (BadScript line why) is = same (BadScript line why) is.cause
  left (BadImage which) is = same (BadImage which) is.cause
  left (Differs line) is = same (Differs line) is.cause
  left OtherBoard is = same OtherBoard is.cause
  left NoMemory is = inr refl

pub exact : OneStatus → (command : Option Command) (told : Option Files) (shelf : ShelfCall) (sink : SinkCall)
    (status : Status) → shelf.files ≡ told → IsCaused status command shelf sink →
    IsExact status command told (¬ Rose shelf.faults_before shelf.faults_now)
    (¬ Rose sink.faults_before sink.faults_now)
exact one None told shelf sink status told_is is = λ wanted has quiet. absurd has
exact one (Some command) None shelf sink status told_is is = λ wanted has quiet. absurd has
exact one (Some command) (Some files) shelf sink status told_is is = λ wanted has quiet.
    left one command files shelf sink told_is wanted has quiet status is

none_rose : ¬ Rose 0 0
none_rose rose = grind (arith, nat_tests)

always_quiet : (wanted : Status) → IsQuietFor wanted (Unit {0}) (Unit {0}) → IsQuietFor wanted (¬ Rose 0 0) (¬ Rose 0 0)
always_quiet Done quiet = (none_rose, none_rose)
always_quiet _ quiet = none_rose

-- where the outside cannot fail, it is quiet
pub always_exact : (status : Status) (command : Option Command) (told : Option Files) →
    IsExact status command told (¬ Rose 0 0) (¬ Rose 0 0) → IsExact status command told (Unit {0}) (Unit {0})
always_exact status command told is = λ wanted has quiet. is wanted has (always_quiet wanted quiet)
