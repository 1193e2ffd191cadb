-- How the program ends follows from how its command does.
use Rattle.std.proofs.Common.{◌≡◌, ◌≢◌, ◌⊎◌, inl, inr, ◌∷◌, ◌++◌, [], ℕ, List, Option, Some, None, Result, Ok, Err}
use Rattle.std.proofs.Common.{refl}
use Rattle.std.proofs.Common.{All, IsUtf8, arith, sym, ap, ◌∙◌}
use Rattle.std.proofs.lemmas.List.{append-nil}
use Rattle.board_prelude.proofs.{nat_tests}
use Rattle.std.specs.Io.KnownBytes.{Keeps}
use Rattle.board_spec.specs.Text.{line_feed}
use Rattle.command_words.specs.Words.{Command, IsCommand, AreWordsOf, command_of}
use Rattle.command_files.specs.declared.status.Status.{Status}
use Rattle.command_files.specs.declared.status.Which.{Which}
use Rattle.command_files.specs.declared.status.Status.TheVariants.{Done, Usage, NoMemory, ReadFault, WriteFault}
use Rattle.command_files.specs.Asked.{AsksFor}
use Rattle.board_outside.specs.Outside.{Rose}
use Rattle.command_files.specs.Status.{code_of}
use Rattle.command_files.specs.Outcomes.{ShelfCall}
use Rattle.command_files.specs.FaultText.{text_of}
use Rattle.board_commands.specs.Outcomes.{SinkCall, IsCaused}
use Rattle.board_main.specs.declared.line.WordFault.{WordFault}
use Rattle.board_main.specs.declared.line.WordFault.TheVariants.{NoText, NoRoom}
use Rattle.board_main.specs.Given.{AreRead, status_of_words}
use Rattle.board_main.specs.declared.answers.OwnAnswer.{OwnAnswer}
use Rattle.board_main.specs.Ends.{Ends, EndsAfter, EndsProgram, IsWritten}
use Rattle.board_main.specs.Outputs.{IsIdle, TookAll, TookFront}
use Rattle.board_main.specs.Own.{own_of, own_text}
use Rattle.promises.specs.Accepted.{PutsText}
use Rattle.promises.specs.Totality.{AreNoCommand, Told, IsCause, Leaves, CanEndSo, WritesFront}
use Rattle.promises.proofs.Headlines.{puts_text}
use Rattle.promises.proofs.Totals.{ends_so, no_command, found, comes, possible}

is_done : (status : Status) → 0 ≡ code_of status → status ≡ Done
is_done status e = grind (arith, nat_tests)

is_usage : (status : Status) → 1 ≡ code_of status → status ≡ Usage
is_usage status e = grind (arith, nat_tests)

was_read : (fault : WordFault) (status : Status) → 0 ≡ code_of status → status ≡ status_of_words fault → ⊥
was_read fault status e is = grind (arith, nat_tests)

-- a command is none of the program's own words
not_own : (words : List (List ℕ)) (command : Command) → AreWordsOf words command → own_of words ≡ None
not_own words command are = grind (arith, nat_tests)

module _ (shelf : ShelfCall) (sink errors : SinkCall) (given : Option (List (List ℕ))) (code : ℕ)
    (is : EndsProgram given code shelf sink errors) (words : List (List ℕ)) (given_is : given ≡ Some words) where
  -- ---- a command

  module _ (command : Command) (there : IsCommand command) (are : AreWordsOf words command) where
    done_by : (read : Result (List (List ℕ)) WordFault) → 0 ≡ code_of is.status → AreRead (Some words) read →
        EndsAfter read is.status shelf sink → IsCaused is.status (command_of words) shelf sink
    done_by (Ok others) zero same ends =
        let of_words = rw same at ends in (of_words.command (not_own words command are)).caused
    done_by (Err fault) zero same ends = absurd (was_read fault is.status zero ends.0)

    pub done_text : (files : List ℕ → List ℕ) (before now : List ℕ) → code ≡ 0 → shelf.files ≡ Some files →
        sink.taken_before ≡ Some before → sink.taken_now ≡ Some now → PutsText files command before now
    done_text files before now zero told took takes =
        let coded : 0 ≡ code_of is.status = sym zero ∙ is.coded in
        let read = is.ends.read in
        let caused = done_by is.ends.words coded (rw given_is at read) is.ends.ends in
        puts_text files before now shelf sink told took takes words command is.status there are caused
        (is_done is.status coded)

    module _ (texts : All IsUtf8 words) where
      comes_by : (read : Result (List (List ℕ)) WordFault) (files : List ℕ → List ℕ) (wanted : Status) →
          shelf.files ≡ Some files → AreRead (Some words) read → EndsAfter read is.status shelf sink →
          AsksFor command files wanted → ¬ Rose shelf.faults_before shelf.faults_now →
          (wanted ≡ Done → ¬ Rose sink.faults_before sink.faults_now) →
          (is.status ≡ wanted) ⊎ (is.status ≡ NoMemory)
      comes_by (Ok others) files wanted told same ends asks quiet_shelf quiet_sink =
          let of_words = rw same at ends in
          comes words command shelf.files files is.status wanted _ _ there are told
          (of_words.command (not_own words command are)).exact asks quiet_shelf quiet_sink
      comes_by (Err NoText) files wanted told bad ends asks quiet_shelf quiet_sink = absurd (bad texts)
      comes_by (Err NoRoom) files wanted told bad ends asks quiet_shelf quiet_sink = inr ends.0

      code_so : (wanted : Status) → (is.status ≡ wanted) ⊎ (is.status ≡ NoMemory) →
          (code ≡ code_of wanted) ⊎ (code ≡ 8)
      code_so wanted (inl ends) = inl (is.coded ∙ ap code_of ends)
      code_so wanted (inr memory) = inr (is.coded ∙ ap code_of memory)

      pub comes_so : (files : List ℕ → List ℕ) (wanted : Status) → shelf.files ≡ Some files →
          AsksFor command files wanted → ¬ Rose shelf.faults_before shelf.faults_now →
          (wanted ≡ Done → ¬ Rose sink.faults_before sink.faults_now) → (code ≡ code_of wanted) ⊎ (code ≡ 8)
      comes_so files wanted told asks quiet_shelf quiet_sink =
          let read = is.ends.read in
          code_so wanted (comes_by is.ends.words files wanted told (rw given_is at read) is.ends.ends asks quiet_shelf
          quiet_sink)

      possible_by : (read : Result (List (List ℕ)) WordFault) → AreRead (Some words) read →
          EndsAfter read is.status shelf sink → CanEndSo command is.status
      possible_by (Ok others) same ends =
          let of_words = rw same at ends in
          possible words command is.status there are (of_words.command (not_own words command are)).caused.possible
      possible_by (Err NoText) bad ends = absurd (bad texts)
      possible_by (Err NoRoom) bad ends = rw ends.0 tt

      pub possible_so : (status : Status) × (code ≡ code_of status) × CanEndSo command status
      possible_so =
          let read = is.ends.read in
          (is.status, is.coded, possible_by is.ends.words (rw given_is at read) is.ends.ends)

    module _ (told : Told) (files_told : shelf.files ≡ Some told.files)
        (failed_told : shelf.failed_name ≡ told.failed_name)
        (read_before : shelf.faults_before ≡ told.read_faults_before)
        (read_now : shelf.faults_now ≡ told.read_faults_now)
        (put_before : sink.faults_before ≡ told.put_faults_before) (put_now : sink.faults_now ≡ told.put_faults_now)
        (took : sink.taken_before ≡ Some told.before) (takes : sink.taken_now ≡ Some told.now)
        (texts : All IsUtf8 words) where
      nothing : (status : Status) → status ≡ NoMemory → Keeps sink.taken_before sink.taken_now →
          IsCause command told status × Leaves command told status
      nothing status is_memory keeps =
          let kept = rw (took, takes) at keeps in rw is_memory (tt, inl kept)

      cause_by : (read : Result (List (List ℕ)) WordFault) → AreRead (Some words) read →
          EndsAfter read is.status shelf sink → IsCause command told is.status × Leaves command told is.status
      cause_by (Ok others) same ends =
          let of_words = rw same at ends in
          ends_so told shelf sink files_told failed_told read_before read_now put_before put_now took takes words
          command is.status there are (of_words.command (not_own words command are)).caused
      cause_by (Err NoText) bad ends = absurd (bad texts)
      cause_by (Err NoRoom) bad ends = nothing is.status ends.0 ends.2.kept

      pub caused_so : (status : Status) × (code ≡ code_of status) × IsCause command told status
          × Leaves command told status
      caused_so =
          let read = is.ends.read in
          let both = cause_by is.ends.words (rw given_is at read) is.ends.ends in
          (is.status, is.coded, both.0, both.1)

  -- ---- no command

  usage_by : (read : Result (List (List ℕ)) WordFault) → is.status ≡ Usage → AreRead (Some words) read →
      EndsAfter read is.status shelf sink → (¬ All IsUtf8 words) ⊎ ((own_of words ≡ None) × AreNoCommand words)
  usage_by (Ok others) usage same ends =
      let of_words = rw same at ends in
      let none = of_words.usage.0 usage in inr (none.0, no_command words none.1)
  usage_by (Err NoText) usage bad ends = inl bad
  usage_by (Err NoRoom) usage bad ends = grind (arith, usage, ends.0)

  pub usage_so : code ≡ 1 → (¬ All IsUtf8 words) ⊎ ((own_of words ≡ None) × AreNoCommand words)
  usage_so one =
      let read = is.ends.read in
      usage_by is.ends.words (is_usage is.status (sym one ∙ is.coded)) (rw given_is at read) is.ends.ends

  no_command_by : (read : Result (List (List ℕ)) WordFault) → own_of words ≡ None → AreNoCommand words →
      AreRead (Some words) read → EndsAfter read is.status shelf sink → (is.status ≡ Usage) ⊎ (is.status ≡ NoMemory)
  no_command_by (Ok others) own none same ends =
      let of_words = rw same at ends in inl (of_words.usage.1 (own, found words (command_of words) refl none))
  no_command_by (Err NoText) own none bad ends = inl ends.0
  no_command_by (Err NoRoom) own none bad ends = inr ends.0

  coded_so : (is.status ≡ Usage) ⊎ (is.status ≡ NoMemory) → (code ≡ 1) ⊎ (code ≡ 8)
  coded_so (inl usage) = inl (is.coded ∙ ap code_of usage)
  coded_so (inr memory) = inr (is.coded ∙ ap code_of memory)

  pub no_command_so : own_of words ≡ None → AreNoCommand words → (code ≡ 1) ⊎ (code ≡ 8)
  no_command_so own none =
      let read = is.ends.read in coded_so (no_command_by is.ends.words own none (rw given_is at read) is.ends.ends)

-- ---- no fault is hidden

module _ (shelf : ShelfCall) (sink : SinkCall) (status : Status) where
  read_by : (words : List (List ℕ)) (own : Option OwnAnswer) → own_of words ≡ own → Ends words status shelf sink →
      ((which : Which) → status ≢ ReadFault which) → shelf.faults_now ≡ shelf.faults_before
  read_by words None none ends other = (ends.command none).caused.no_fault_hidden other
  read_by words (Some own) is ends other = (ends.own own is).unread

  written_quiet : (text : List ℕ) (ended : Status) → IsWritten ended text sink → ended ≢ WriteFault →
      sink.faults_now ≡ sink.faults_before
  written_quiet text Done written other = written.quiet
  written_quiet text WriteFault written other = absurd (other refl)
  written_quiet text _ written other = absurd written

  put_by : (words : List (List ℕ)) (own : Option OwnAnswer) → own_of words ≡ own → Ends words status shelf sink →
      status ≢ WriteFault → sink.faults_now ≡ sink.faults_before
  put_by words None none ends other = (ends.command none).caused.no_put_fault_hidden other
  put_by words (Some own) is ends other = written_quiet (own_text own) status (ends.own own is).written other

  read_after : (read : Result (List (List ℕ)) WordFault) → EndsAfter read status shelf sink →
      ((which : Which) → status ≢ ReadFault which) → shelf.faults_now ≡ shelf.faults_before
  read_after (Ok words) ends other = read_by words (own_of words) refl ends other
  read_after (Err fault) ends other = ends.1

  put_after : (read : Result (List (List ℕ)) WordFault) → EndsAfter read status shelf sink → status ≢ WriteFault →
      sink.faults_now ≡ sink.faults_before
  put_after (Ok words) ends other = put_by words (own_of words) refl ends other
  put_after (Err fault) ends other = ends.2.quiet

module _ (shelf : ShelfCall) (sink errors : SinkCall) (given : Option (List (List ℕ))) (code : ℕ)
    (is : EndsProgram given code shelf sink errors) where
  pub read_so : code ≢ 2 → shelf.faults_now ≡ shelf.faults_before
  read_so other =
      read_after shelf sink is.status is.ends.words is.ends.ends
      (λ which fault. other (is.coded ∙ ap code_of fault))

  pub put_so : code ≢ 3 → sink.faults_now ≡ sink.faults_before
  put_so other =
      put_after shelf sink is.status is.ends.words is.ends.ends (λ fault. other (is.coded ∙ ap code_of fault))

-- ---- standard error

module _ (shelf : ShelfCall) (sink errors : SinkCall) (given : Option (List (List ℕ))) (code : ℕ)
    (is : EndsProgram given code shelf sink errors) (before now : List ℕ) (took : errors.taken_before ≡ Some before)
    (takes : errors.taken_now ≡ Some now) where
  pub silent_so : code ≡ 0 → now ≡ before
  silent_so zero =
      let idle = is.ends.told.done (is_done is.status (sym zero ∙ is.coded)) in
      let keeps = idle.kept in rw (took, takes) at keeps

  fronts : (text : List ℕ) → IsIdle errors ⊎ (TookAll errors text ⊎ TookFront errors text) →
      WritesFront text before now
  fronts text (inl idle) =
      let keeps = idle.kept in
      let kept = rw (took, takes) at keeps in ([], text, refl, kept ∙ sym (append-nil before))
  fronts text (inr (inl all)) =
      let taken = all.taken in
      let put = rw (took, takes) at taken in (text, [], sym (append-nil text), put)
  fronts text (inr (inr part)) =
      let sent = part.taken.sent in
      let taken = sent.taken in
      let put = rw (took, takes) at taken in (sent.front, part.taken.rest, sent.whole, put)

  not_done : code ≢ 0 → is.status ≢ Done
  not_done other done = other (is.coded ∙ ap code_of done)

  pub told_so : code ≢ 0 →
      (status : Status) × (code ≡ code_of status) × WritesFront (text_of status ++ line_feed ∷ []) before now
  told_so other =
      (is.status, is.coded, fronts (text_of is.status ++ line_feed ∷ []) (is.ends.told.refused (not_done other)))
