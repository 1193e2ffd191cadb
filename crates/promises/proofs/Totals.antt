-- Totality follows from the causes of each status.
use Rattle.std.proofs.Common.{◌≡◌, ◌⊎◌, ◌↔◌, inl, inr, ℕ, List, [], ◌∷◌, ◌++◌, Option, Some, None, arith, refl, take}
use Rattle.board_outside.specs.Outside.{Put}
use Rattle.command_words.specs.Words.{Command, Resume, IsCommand, AreWordsOf, command_of}
use Rattle.command_words.proofs.WordLaws.{words_decide}
use Rattle.command_files.specs.declared.status.Status.{Status}
use Rattle.command_files.specs.declared.status.Status.TheVariants.{Done, Usage, ReadFault, WriteFault, NoMemory}
use Rattle.command_files.specs.declared.status.Status.TheVariants.{TooLong, BadScript, BadImage, Differs, OtherBoard}
use Rattle.command_files.specs.declared.status.Which.{Which}
use Rattle.command_files.specs.Asked.{AsksFor, ReadsFile}
use Rattle.command_files.specs.Calls.{Since, OfCalls}
use Rattle.command_files.specs.Outcomes.{CompareBoards, IsImageKind, CanEnd, ShelfCall}
use Rattle.command_files.specs.Known.{Files}
use Rattle.command_files.specs.declared.status.Which.TheVariants.{Script, Rom, Disk, Image}
use Rattle.command_files.proofs.Refusals.{at_files}
use Rattle.board_commands.specs.Outcomes.{SinkCall, IsCaused, IsExact, HasCause, Stopped, OfCommand, PutsTextFront}
use Rattle.board_commands.specs.Outcomes.{WordsCanEnd}
use Rattle.board_commands.specs.Outcomes.{PutsText as PutsOf, IsQuietFor}
use Rattle.board_commands.specs.Puts.{ArePutsOf, AllTook, LatestRefused}
use Rattle.std.specs.Io.KnownBytes.{Appends, Keeps}
use Rattle.promises.specs.Accepted.{IsTextOf}
use Rattle.promises.specs.Totality.{AreNoCommand, Told, IsCause, PutsFront, Leaves, CanEndSo, IsReadBy, TookEach}
use Rattle.promises.specs.Totality.{RefusedLast, ArePuts}
use Rattle.promises.proofs.Headlines.{said, text_of}

-- ---- the words

pub no_command : (words : List (List ℕ)) → command_of words ≡ None → AreNoCommand words
no_command words none command there are = grind (arith, none, said words command there are)

pub found : (words : List (List ℕ)) (read : Option Command) → command_of words ≡ read → AreNoCommand words → read ≡ None
found words None is others = refl
found words (Some command) is others =
    let decided = (words_decide words command).0 is in absurd (others command decided.0 decided.1)

pub usage_decided : (words : List (List ℕ)) (ended : Status) → ((ended ≡ Usage) ↔ (command_of words ≡ None)) →
    (ended ≡ Usage) ↔ AreNoCommand words
usage_decided words ended decided =
    (λ is. no_command words (decided.0 is), λ others. decided.1 (found words (command_of words) refl others))

-- ---- what was put

took_each : (made : List Put) → AllTook made → TookEach made
took_each [] took = tt
took_each (latest ∷ before) took = (took.0, took_each before took.1)

refused_last : (made : List Put) → LatestRefused made → RefusedLast made
refused_last [] refused = absurd refused
refused_last (latest ∷ before) refused = (refused.0, took_each before refused.1)

puts_by : (ended : Status) (made : List Put) → ArePutsOf ended made → ArePuts ended made
puts_by Done made puts = took_each made puts
puts_by WriteFault made puts = refused_last made puts
puts_by NoMemory made (inl none) = inl none
puts_by NoMemory made (inr refused) = inr (refused_last made refused)
puts_by _ made puts = puts

made_since : (ended : Status) (before now : List Put) → Since before (Some now) (ArePutsOf ended) →
    (made : List Put) × (now ≡ made ++ before) × ArePuts ended made
made_since ended before now since =
    (since.made, grind (arith, since.told), puts_by ended since.made since.holds)

pub puts_made : (ended : Status) (told_before told_now : Option (List Put)) (before now : List Put) →
    told_before ≡ Some before → told_now ≡ Some now → OfCalls told_before told_now (ArePutsOf ended) →
    (made : List Put) × (now ≡ made ++ before) × ArePuts ended made
puts_made ended told_before told_now before now before_is now_is calls =
    made_since ended before now (rw (before_is, now_is) at calls)

-- ---- the statuses that can be

image_kind : (which : Which) → IsImageKind which → (which ≡ Rom) ⊎ (which ≡ Disk) ⊎ (which ≡ Image)
image_kind Rom is = inl refl
image_kind Disk is = inr (inl refl)
image_kind Image is = inr (inr refl)
image_kind _ is = absurd is

other_board : (command : Command) → CompareBoards command → IsReadBy command Image
other_board (Resume image script) is = ([], Script ∷ [], refl)
other_board _ is = absurd is

can_end : (command : Command) (ended : Status) → CanEnd command ended → CanEndSo command ended
can_end command Usage can = can
can_end command (ReadFault which) can = can
can_end command (TooLong which) can = can
can_end command (BadScript line why) can = can
can_end command (BadImage which) can = (can.0, image_kind which can.1)
can_end command (Differs line) can = can
can_end command OtherBoard can = other_board command can
can_end command _ can = tt

pub possible : (words : List (List ℕ)) (command : Command) (ended : Status) → IsCommand command →
    AreWordsOf words command → WordsCanEnd (command_of words) ended → CanEndSo command ended
possible words command ended there are can = can_end command ended (rw (said words command there are) at can)

-- ---- the causes

abbrev FailedAt : Which → (failed : List ℕ) → Command → Files → Type 0
FailedAt which failed command files = ReadsFile command files which (λ name bytes. failed ≡ take 255 name)

module _ (told : Told) (shelf : ShelfCall) (sink : SinkCall) (files_told : shelf.files ≡ Some told.files)
    (failed_told : shelf.failed_name ≡ told.failed_name)
    (read_before : shelf.faults_before ≡ told.read_faults_before) (read_now : shelf.faults_now ≡ told.read_faults_now)
    (put_before : sink.faults_before ≡ told.put_faults_before) (put_now : sink.faults_now ≡ told.put_faults_now)
    (took : sink.taken_before ≡ Some told.before) (takes : sink.taken_now ≡ Some told.now) where
  appended : (bytes : List ℕ) → Appends sink.taken_before sink.taken_now bytes → told.now ≡ told.before ++ bytes
  appended bytes taken = rw (took, takes) at taken

  in_two : (command : Command) (text first rest : List ℕ) → text ≡ first ++ rest → IsTextOf told.files command text →
      IsTextOf told.files command (first ++ rest)
  in_two command text first rest is says = rw is at says

  front : (command : Command) → OfCommand (Some command) shelf.files (PutsTextFront sink.taken_before sink.taken_now) →
      PutsFront command told
  front command puts =
      let of =
      at_files shelf.files told.files (PutsTextFront sink.taken_before sink.taken_now command) files_told puts in
      let sent = of.taken.sent in (
        sent.front,
        of.taken.rest,
        in_two command of.text sent.front of.taken.rest sent.whole (text_of told.files command of.text of.says),
        appended sent.front sent.taken,
      )

  kept : Keeps sink.taken_before sink.taken_now → told.now ≡ told.before
  kept keeps = rw (took, takes) at keeps

  cause_of : (command : Command) (ended : Status) → HasCause ended (Some command) shelf sink →
      IsCause command told ended
  cause_of command Done cause =
      let puts = at_files shelf.files told.files (PutsOf sink.taken_before sink.taken_now command) files_told cause in
      (puts.text, text_of told.files command puts.text puts.says, appended puts.text puts.taken)
  cause_of command Usage cause = grind (arith, cause)
  cause_of command (ReadFault which) fails =
      let comes = at_files shelf.files told.files (FailedAt which shelf.failed_name command) files_told fails.comes in
      (rw (read_before, read_now) at (fails.rose), rw failed_told at comes)
  cause_of command WriteFault rose = rw (put_before, put_now) at rose
  cause_of command NoMemory cause = tt
  cause_of command (TooLong which) cause =
      at_files shelf.files told.files (λ files. AsksFor command files (TooLong which)) files_told cause
  cause_of command (BadScript line why) cause =
      at_files shelf.files told.files (λ files. AsksFor command files (BadScript line why)) files_told cause
  cause_of command (BadImage which) cause =
      at_files shelf.files told.files (λ files. AsksFor command files (BadImage which)) files_told cause
  cause_of command (Differs line) cause =
      at_files shelf.files told.files (λ files. AsksFor command files (Differs line)) files_told cause
  cause_of command OtherBoard cause =
      at_files shelf.files told.files (λ files. AsksFor command files OtherBoard) files_told cause

  leaves_of : (command : Command) (ended : Status) →
      Stopped ended sink.taken_before sink.taken_now
      (OfCommand (Some command) shelf.files (PutsTextFront sink.taken_before sink.taken_now)) →
      IsCause command told ended → Leaves command told ended
  leaves_of command Done stopped cause = cause
  leaves_of command WriteFault stopped cause = front command stopped
  leaves_of command NoMemory (inl keeps) cause = inl (kept keeps)
  leaves_of command NoMemory (inr puts) cause = inr (front command puts)
  leaves_of command _ keeps cause = kept keeps

  pub ends_so : (words : List (List ℕ)) (command : Command) (ended : Status) → IsCommand command →
      AreWordsOf words command → IsCaused ended (command_of words) shelf sink →
      IsCause command told ended × Leaves command told ended
  ends_so words command ended there are caused =
      let of_command = rw (said words command there are) at caused in
      let cause = cause_of command ended of_command.cause in
      (cause, leaves_of command ended of_command.stopped cause)

-- ---- words that are no command

pub nothing_put : (words : List (List ℕ)) (ended : Status) (shelf : ShelfCall) (sink : SinkCall)
    (before now : List ℕ) → sink.taken_before ≡ Some before → sink.taken_now ≡ Some now →
    IsCaused ended (command_of words) shelf sink → ended ≡ Usage → now ≡ before
nothing_put words ended shelf sink before now took takes caused is =
    let of_usage = rw is at caused in
    let keeps = of_usage.stopped in
    rw (took, takes) at keeps

-- ---- the other way

quiet_for : (wanted : Status) (quiet_shelf quiet_sink : Type 0) → quiet_shelf → (wanted ≡ Done → quiet_sink) →
    IsQuietFor wanted quiet_shelf quiet_sink
quiet_for Done quiet_shelf quiet_sink shelf sink = (shelf, sink refl)
quiet_for _ quiet_shelf quiet_sink shelf sink = shelf

comes_of : (read : Option Command) (command : Command) (told : Option Files) (files : Files) (ended wanted : Status)
    (quiet_shelf quiet_sink : Type 0) → read ≡ Some command → told ≡ Some files →
    IsExact ended read told quiet_shelf quiet_sink → AsksFor command files wanted → quiet_shelf →
    (wanted ≡ Done → quiet_sink) → (ended ≡ wanted) ⊎ (ended ≡ NoMemory)
comes_of read command told files ended wanted quiet_shelf quiet_sink read_is told_is exact asks shelf sink =
    let of_both = rw (read_is, told_is) at exact in
    of_both wanted asks (quiet_for wanted quiet_shelf quiet_sink shelf sink)

pub comes : (words : List (List ℕ)) (command : Command) (told : Option Files) (files : Files) (ended wanted : Status)
    (quiet_shelf quiet_sink : Type 0) → IsCommand command → AreWordsOf words command → told ≡ Some files →
    IsExact ended (command_of words) told quiet_shelf quiet_sink → AsksFor command files wanted → quiet_shelf →
    (wanted ≡ Done → quiet_sink) → (ended ≡ wanted) ⊎ (ended ≡ NoMemory)
comes words command told files ended wanted quiet_shelf quiet_sink there are told_is =
    comes_of (command_of words) command told files ended wanted quiet_shelf quiet_sink (said words command there are)
    told_is
