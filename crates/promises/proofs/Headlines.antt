-- The headline follows from the cause of the status `done`.
use Rattle.std.proofs.Common.{◌≡◌, ℕ, List, [], ◌∷◌, ◌++◌, Option, Some, arith, option_map}
use Rattle.board_prelude.proofs.{nat_tests}
use Rattle.board_spec.specs.declared.event.Entry.{Entry}
use Rattle.board_spec.specs.declared.event.Event.{Event}
use Rattle.board_spec.specs.declared.event.Reply.{Reply}
use Rattle.board_spec.specs.Setup.{Setup}
use Rattle.board_spec.specs.Legal.{IsLegal}
use Rattle.board_spec.specs.Answer.{IsAnswer}
use Rattle.script_spec.specs.ScriptText.{Script, IsScriptText}
use Rattle.command_words.specs.Words.{Command, Run, Replay, Map, Check, Dma, Save, Resume, Serial, Blame, IsCommand}
use Rattle.command_words.specs.Words.{AreWordsOf, command_of}
use Rattle.command_words.specs.declared.transfer.Transfer.{Transfer}
use Rattle.command_words.proofs.WordLaws.{words_decide}
use Rattle.command_files.specs.declared.status.Which.TheVariants.{Script as ScriptFile, Rom, Disk}
use Rattle.command_files.specs.declared.status.Which.TheVariants.{Log as LogFile, Image as ImageFile, Input as InputFile}
use Rattle.command_files.specs.declared.status.Status.{Status}
use Rattle.command_files.specs.declared.status.Status.TheVariants.{Done}
use Rattle.command_files.specs.Known.{Known, nothing_known, Passes, rom_name, disk_name, board_of, Learns, OfScript}
use Rattle.command_files.specs.Known.{OfImage}
use Rattle.command_files.specs.Outcomes.{ShelfCall}
use Rattle.command_files.specs.Asked.{BoardsAgree}
use Rattle.board_commands.specs.Outcomes.{IsCaused, SinkCall, PutsText as PutsOf}
use Rattle.board_commands.specs.Texts.{IsCommandText, IsRunText}
use Rattle.command_texts.specs.Replays.{IsReplayText, IsLegalText, IsMapText}
use Rattle.command_texts.specs.Images.{IsResumeText, IsSaveText}
use Rattle.command_texts.specs.Transfers.{IsTransferText}
use Rattle.command_texts.specs.Serial.{IsSerialText}
use Rattle.command_texts.specs.Blame.{IsBlameText}
use Rattle.board_image.specs.ImageBytes.{Saved, image_bytes}
use Rattle.script_spec.specs.Boards.{IsForBoard}
use Rattle.std.specs.Io.KnownBytes.{Appends}
use Rattle.command_files.proofs.Refusals.{at_files}
use Rattle.promises.proofs.LookPlaces.{all_stand}
use Rattle.promises.specs.Headline.{board_for, Each, IsTrueLook, InRunOrder, InFileOrder, IsHeadline}
use Rattle.promises.specs.Accepted.{IsVerdict, IsResumed, OnBoard, IsTextOf, PutsText}

-- ---- the files

module _ (files : List ℕ → List ℕ) where
  abbrev pub with_script : Script → Known
  with_script script = record nothing_known { script = Some script }

  abbrev pub with_rom : Script → Known
  with_rom script = record (with_script script) { rom = files script.rom }

  abbrev pub with_disk : Script → Known
  with_disk script = record (with_rom script) { disk = option_map files script.disk }

  rom_learnt : (script : Script) (before now : Known) → before ≡ with_script script →
      Passes files before Rom (rom_name before.script) now → now ≡ with_rom script
  rom_learnt script before now is passes = grind (arith, nat_tests)

  disk_learnt : (script : Script) (before now : Known) → before ≡ with_rom script →
      Passes files before Disk (disk_name before.script) now → now ≡ with_disk script
  disk_learnt script before now is passes = grind (arith, nat_tests)

  -- the script is what the file spells, and all that is known comes from the files that it names
  pub record Learnt (name : List ℕ) (known : Known) : Type 0 where
    pub script : Script
    pub spelled : IsScriptText (files name) script
    pub known_is : known ≡ with_disk script

  pub learnt : (name : List ℕ) (one two three known : Known) → one ≡ nothing_known →
      Passes files one ScriptFile (Some name) two → Passes files two Rom (rom_name two.script) three →
      Passes files three Disk (disk_name three.script) known → Learnt name known
  learnt name one two three known is first second third =
      let says = first.1 in
      let two_is : two ≡ with_script says.0 = grind (arith, says.2) in
      record {
        script = says.0;
        spelled = says.1;
        known_is = disk_learnt says.0 three known (rom_learnt says.0 two three two_is second) third;
      }

  abbrev pub with_log : Script → List ℕ → Known
  with_log script log = record (with_disk script) { log = files log }

  pub log_learnt : (script : Script) (log : List ℕ) (before now : Known) → before ≡ with_disk script →
      Passes files before LogFile (Some log) now → now ≡ with_log script log
  log_learnt script log before now is passes = grind (arith, nat_tests)

  abbrev pub with_input : Script → List ℕ → Known
  with_input script input = record (with_disk script) { input = files input }

  pub input_learnt : (script : Script) (input : List ℕ) (before now : Known) → before ≡ with_disk script →
      Passes files before InputFile (Some input) now → now ≡ with_input script input
  input_learnt script input before now is passes = grind (arith, nat_tests)

-- ---- the history

shows : (setup : Setup) (before : List Entry) (event : Event) (reply : Reply) → IsAnswer setup before event reply →
    IsTrueLook setup before event reply
shows setup before event reply answer = grind (arith, nat_tests)

pub looks_show : (setup : Setup) (history : List Entry) → IsLegal setup history →
    Each (λ before entry. IsTrueLook setup before entry.event entry.reply) history
looks_show setup [] legal = tt
looks_show setup (entry ∷ before) legal =
    (shows setup before entry.event entry.reply legal.0.answer, looks_show setup before legal.1)

-- ---- what was put

-- the script that is known is the one that was read, and so is its board
read_board : (files : List ℕ → List ℕ) (script other : Script) (known : Known) → known ≡ with_disk files script →
    known.script ≡ Some other → (other ≡ script) × (board_of known other ≡ board_for files script)
read_board files script other known is has = grind (arith, nat_tests)

pub record IsLogged (files : List ℕ → List ℕ) (script other : Script) (log : List ℕ) (known : Known) : Type 0 where
  pub board : (other ≡ script) × (board_of known other ≡ board_for files script)
  pub log_is : known.log ≡ files log

pub logged_board : (files : List ℕ → List ℕ) (script other : Script) (log_name : List ℕ) (known : Known) →
    known ≡ with_log files script log_name → known.script ≡ Some other → IsLogged files script other log_name known
logged_board files script other log_name known is has = grind (arith, nat_tests)

record IsGiven (files : List ℕ → List ℕ) (script other : Script) (input : List ℕ) (known : Known) : Type 0 where
  pub board : (other ≡ script) × (board_of known other ≡ board_for files script)
  pub input_is : known.input ≡ files input

given_board : (files : List ℕ → List ℕ) (script other : Script) (input : List ℕ) (known : Known) →
    known ≡ with_input files script input → known.script ≡ Some other → IsGiven files script other input known
given_board files script other input known is has = grind (arith, nat_tests)

-- ---- `resume`

record HasLearnt (files : List ℕ → List ℕ) (image name : List ℕ) (known : Known) : Type 0 where
  pub saved : Saved
  pub bytes : files image ≡ image_bytes saved.setup saved.steps
  pub script : Script
  pub spelled : IsScriptText (files name) script
  pub known_is : known ≡ record nothing_known { image = Some saved; script = Some script }

resume_learnt : (files : List ℕ → List ℕ) (image name : List ℕ) (one two known : Known) → one ≡ nothing_known →
    Learns one ImageFile (files image) two → Learns two ScriptFile (files name) known →
    HasLearnt files image name known
resume_learnt files image name one two known is (saved, sound, bytes, two_is) (script, spelled, known_is) = record {
  saved = saved;
  bytes = bytes;
  script = script;
  spelled = spelled;
  known_is = grind (arith, is, two_is, known_is);
}

resumed_as : (saved other : Saved) (script said : Script) (known : Known) →
    known ≡ record nothing_known { image = Some saved; script = Some script } → known.image ≡ Some other →
    known.script ≡ Some said → (other ≡ saved) × (said ≡ script)
resumed_as saved other script said known is has_image has_script = grind (arith, nat_tests)

resumed_of : (files : List ℕ → List ℕ) (image name : List ℕ) (saved other agreed : Saved) (script said same : Script)
    (text : List ℕ) → files image ≡ image_bytes saved.setup saved.steps → IsScriptText (files name) script →
    other ≡ saved → said ≡ script → agreed ≡ saved → same ≡ script → IsForBoard agreed.setup same →
    IsResumeText other said text → IsResumed files image name text
resumed_of files image name saved other agreed script said same text bytes spelled other_is said_is agreed_is same_is
    fits says =
    let of_saved = rw other_is at says in
    let is = rw said_is at of_saved in
    let of_agreed = rw agreed_is at fits in
    let is_for = rw same_is at of_agreed in
    record {
      setup = saved.setup;
      steps = saved.steps;
      saved = bytes;
      script = script;
      spelled = spelled;
      memory = is_for.memory;
      cards = is_for.cards;
      disk = is_for.disk;
      said = record {
        history = is.history;
        order = is.replay.same;
        legal = is.replay.legal;
        looks = looks_show saved.setup is.history is.replay.legal;
        locked = is.locked;
        text = is.log;
      };
    }

resume_by : (files : List ℕ → List ℕ) (image name text : List ℕ) (known : Known) → HasLearnt files image name known →
    BoardsAgree known → OfScript known (λ said. OfImage known (λ saved. IsResumeText saved said text)) →
    IsResumed files image name text
resume_by files image name text known got (same, has_same, (agreed, has_agreed, fits))
    (said, has_said, (other, has_other, says)) =
    let agrees = resumed_as got.saved agreed got.script same known got.known_is has_agreed has_same in
    let is = resumed_as got.saved other got.script said known got.known_is has_other has_said in
    resumed_of files image name got.saved other agreed got.script said same text got.bytes got.spelled is.0 is.1
    agrees.0 agrees.1 fits says

resume_text : (files : List ℕ → List ℕ) (image name text : List ℕ) → IsCommandText (Resume image name) files text →
    IsResumed files image name text
resume_text files image name text is =
    let second = is.read in
    let first = second.1 in
    let image_read = first.2 in
    let script_read = second.2 in
    let got =
    resume_learnt files image name first.0 second.0 is.known first.1 image_read.1 script_read.1 in
    resume_by files image name text is.known got is.done is.says

-- ---- the other commands

pub said : (words : List (List ℕ)) (command : Command) → IsCommand command → AreWordsOf words command →
    command_of words ≡ Some command
said words command there are = (words_decide words command).1 (there, are)

module _ (files : List ℕ → List ℕ) (name : List ℕ) where
  run_of : (script other : Script) (setup : Setup) (text : List ℕ) → IsScriptText (files name) script →
      other ≡ script → setup ≡ board_for files script → IsRunText setup other text →
      IsHeadline InRunOrder files name text
  run_of script other setup text spelled other_is setup_is says =
      let of_script = rw other_is at says in
      let is = rw setup_is at of_script in
      record {
        script = script;
        spelled = spelled;
        said = record {
          history = is.history;
          order = (is.complete, all_stand (board_for files script) script.phases is.history is.complete is.places);
          legal = is.legal;
          looks = looks_show (board_for files script) is.history is.legal;
          locked = is.locked;
          text = is.log;
        };
      }

  replay_of : (script other : Script) (setup : Setup) (text : List ℕ) → IsScriptText (files name) script →
      other ≡ script → setup ≡ board_for files script → IsReplayText setup other text →
      IsHeadline InFileOrder files name text
  replay_of script other setup text spelled other_is setup_is says =
      let of_script = rw other_is at says in
      let is = rw setup_is at of_script in
      record {
        script = script;
        spelled = spelled;
        said = record {
          history = is.history;
          order = is.replay.same;
          legal = is.replay.legal;
          looks = looks_show (board_for files script) is.history is.replay.legal;
          locked = is.locked;
          text = is.log;
        };
      }

  verdict_of : (script other : Script) (setup : Setup) (log log_read text : List ℕ) →
      IsScriptText (files name) script → other ≡ script → setup ≡ board_for files script → log_read ≡ files log →
      IsLegalText setup other log_read text → IsVerdict files name log text
  verdict_of script other setup log log_read text spelled other_is setup_is log_is says =
      let of_script = rw other_is at says in
      let of_log = rw log_is at of_script in
      let is = rw setup_is at of_log in
      record {
        accepted = record {
          script = script;
          spelled = spelled;
          history = is.legal.history;
          order = is.legal.complete;
          legal = is.legal.legal;
          text = is.legal.text;
        };
        said = is.said;
      }

  -- what is said of the script that was read, on the board of what is known
  of_read : (P : Setup → Script → Type 0) (script other : Script) (setup : Setup) →
      IsScriptText (files name) script → other ≡ script → setup ≡ board_for files script → P setup other →
      OnBoard files name P
  of_read P script other setup spelled other_is setup_is says =
      let of_script = rw other_is at says in
      let of_setup = rw setup_is at of_script in record { script = script; spelled = spelled; holds = of_setup }

  on_board : (P : Setup → Script → Type 0) (one two three known : Known) → one ≡ nothing_known →
      Passes files one ScriptFile (Some name) two → Passes files two Rom (rom_name two.script) three →
      Passes files three Disk (disk_name three.script) known → OfScript known (λ script. P (board_of known script)
      script) → OnBoard files name P
  on_board P one two three known is first second third (other, has, says) =
      let got = learnt files name one two three known is first second third in
      let same = read_board files got.script other known got.known_is has in
      of_read P got.script other (board_of known other) got.spelled same.0 same.1 says

  map_text : (text : List ℕ) → IsCommandText (Map name) files text →
      OnBoard files name (λ setup script. IsMapText setup script text)
  map_text text is =
      let third = is.read in
      let second = third.1 in
      let first = second.1 in
      on_board (λ setup script. IsMapText setup script text) first.0 second.0 third.0 is.known first.1 first.2
      second.2 third.2 is.says

  dma_text : (transfer : Transfer) (text : List ℕ) → IsCommandText (Dma name transfer) files text →
      OnBoard files name (λ setup script. IsTransferText setup script transfer text)
  dma_text transfer text is =
      let third = is.read in
      let second = third.1 in
      let first = second.1 in
      on_board (λ setup script. IsTransferText setup script transfer text) first.0 second.0 third.0 is.known first.1 first.2
      second.2 third.2 is.says

  save_text : (text : List ℕ) → IsCommandText (Save name) files text →
      OnBoard files name (λ setup script. IsSaveText setup script text)
  save_text text is =
      let third = is.read in
      let second = third.1 in
      let first = second.1 in
      on_board (λ setup script. IsSaveText setup script text) first.0 second.0 third.0 is.known first.1 first.2
      second.2 third.2 is.says

  blame_text : (text : List ℕ) → IsCommandText (Blame name) files text →
      OnBoard files name (λ setup script. IsBlameText setup script text)
  blame_text text is =
      let third = is.read in
      let second = third.1 in
      let first = second.1 in
      on_board (λ setup script. IsBlameText setup script text) first.0 second.0 third.0 is.known first.1 first.2
      second.2 third.2 is.says

  serial_text : (input text : List ℕ) → IsCommandText (Serial name input) files text →
      OnBoard files name (λ setup script. IsSerialText setup script (files input) text)
  serial_text input text is =
      let fourth = is.read in
      let third = fourth.1 in
      let second = third.1 in
      let first = second.1 in
      let got = learnt files name first.0 second.0 third.0 fourth.0 first.1 first.2 second.2 third.2 in
      let known_is = input_learnt files got.script input fourth.0 is.known got.known_is fourth.2 in
      let said = is.says in
      let same = given_board files got.script said.0 input is.known known_is said.1 in
      let of_input = rw same.input_is at said.2 in
      of_read (λ setup script. IsSerialText setup script (files input) text) got.script said.0
      (board_of is.known said.0) got.spelled same.board.0 same.board.1 of_input

  replay_text : (text : List ℕ) → IsCommandText (Replay name) files text → IsHeadline InFileOrder files name text
  replay_text text is =
      let third = is.read in
      let second = third.1 in
      let first = second.1 in
      let got = learnt files name first.0 second.0 third.0 is.known first.1 first.2 second.2 third.2 in
      let said = is.says in
      let same = read_board files got.script said.0 is.known got.known_is said.1 in
      replay_of got.script said.0 (board_of is.known said.0) text got.spelled same.0 same.1 said.2

  run_text : (text : List ℕ) → IsCommandText (Run name) files text → IsHeadline InRunOrder files name text
  run_text text is =
      let third = is.read in
      let second = third.1 in
      let first = second.1 in
      let got = learnt files name first.0 second.0 third.0 is.known first.1 first.2 second.2 third.2 in
      let said = is.says in
      let same = read_board files got.script said.0 is.known got.known_is said.1 in
      run_of got.script said.0 (board_of is.known said.0) text got.spelled same.0 same.1 said.2

  check_text : (log text : List ℕ) → IsCommandText (Check name log) files text → IsVerdict files name log text
  check_text log text is =
      let fourth = is.read in
      let third = fourth.1 in
      let second = third.1 in
      let first = second.1 in
      let got = learnt files name first.0 second.0 third.0 fourth.0 first.1 first.2 second.2 third.2 in
      let known_is = log_learnt files got.script log fourth.0 is.known got.known_is fourth.2 in
      let said = is.says in
      let same = logged_board files got.script said.0 log is.known known_is said.1 in
      verdict_of got.script said.0 (board_of is.known said.0) log is.known.log text got.spelled same.board.0
      same.board.1 same.log_is said.2

pub text_of : (files : List ℕ → List ℕ) (command : Command) (text : List ℕ) → IsCommandText command files text →
    IsTextOf files command text
text_of files (Replay name) text is = replay_text files name text is
text_of files (Run name) text is = run_text files name text is
text_of files (Check name log) text is = check_text files name log text is
text_of files (Resume image name) text is = resume_text files image name text is
text_of files (Map name) text is = map_text files name text is
text_of files (Dma name transfer) text is = dma_text files name transfer text is
text_of files (Save name) text is = save_text files name text is
text_of files (Serial name input) text is = serial_text files name input text is
text_of files (Blame name) text is = blame_text files name text is
text_of files _ text is = is

module _ (files : List ℕ → List ℕ) (put_before put_now : List ℕ) (shelf : ShelfCall) (sink : SinkCall)
    (told : shelf.files ≡ Some files) (took : sink.taken_before ≡ Some put_before)
    (takes : sink.taken_now ≡ Some put_now) where
  puts_of : (command : Command) (said : Option Command) (status : Status) → said ≡ Some command → status ≡ Done →
      IsCaused status said shelf sink → PutsOf sink.taken_before sink.taken_now command files
  puts_of command said status said_is done caused =
      let of_done = rw done at caused in
      let of_both = rw said_is at of_done in
      at_files shelf.files files (PutsOf sink.taken_before sink.taken_now command) told of_both.cause

  put_is : (text : List ℕ) → Appends sink.taken_before sink.taken_now text → put_now ≡ put_before ++ text
  put_is text taken = rw (took, takes) at taken

  pub puts_text : (words : List (List ℕ)) (command : Command) (status : Status) → IsCommand command →
      AreWordsOf words command → IsCaused status (command_of words) shelf sink → status ≡ Done →
      PutsText files command put_before put_now
  puts_text words command status there are caused done =
      let puts = puts_of command (command_of words) status (said words command there are) done caused in
      (puts.text, text_of files command puts.text puts.says, put_is puts.text puts.taken)
