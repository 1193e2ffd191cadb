-- Of good files a command is to be done.
use Rattle.std.proofs.Common.{◌≡◌, ◌≤◌, ◌∷◌, [], ℕ, List, length, Option, Some, None, option_map, refl, subst}
use Rattle.board_spec.specs.Setup.{Setup}
use Rattle.script_spec.specs.ScriptText.{Script, IsScriptText}
use Rattle.script_spec.specs.Laws.{OneScript}
use Rattle.script_spec.specs.Checks.{IsLogOf}
use Rattle.command_words.specs.Words.{Replay, Check}
use Rattle.command_files.specs.declared.status.Which.TheVariants.{Script as ScriptFile, Rom, Disk}
use Rattle.command_files.specs.declared.status.Status.TheVariants.{Done}
use Rattle.command_files.specs.Known.{nothing_known, Passes, AreReadAs, board_of}
use Rattle.command_files.specs.Asked.{AsksFor}
use Rattle.promises.specs.Headline.{board_for}
use Rattle.promises.specs.Accepted.{IsAccepted}
use Rattle.promises.specs.Laws.{AreGood, IsGoodDisk, IsToBeDone, GoodFilesAreDone}
use Rattle.promises.proofs.Headlines.{with_script, with_rom, with_disk, with_log, learnt, log_learnt, logged_board}

module _ (one_script : OneScript) (files : List ℕ → List ℕ) (name : List ℕ) (script : Script)
    (good : AreGood files name script) where
  disk_passes : (disk : Option (List ℕ)) → IsGoodDisk files disk →
      Passes files (with_rom files script) Disk disk
      (record (with_rom files script) { disk = option_map files disk })
  disk_passes None is = refl
  disk_passes (Some disk) is = (is.0, (is.1, refl))

  board_read : AreReadAs (Replay name) files (Disk ∷ Rom ∷ ScriptFile ∷ []) (with_disk files script)
  board_read = (
    with_rom files script,
    (
      with_script files script,
      (nothing_known, refl, (good.fits, (script, good.spelled, refl))),
      (good.rom_fits, (good.rom, refl)),
    ),
    disk_passes script.disk good.disk,
  )

  accepts : (log : List ℕ) → length (files log) ≤ 0x400_0000 → IsAccepted files name (files log) →
      AsksFor (Check name log) files Done
  accepts log fits is =
      let same = one_script (files name) is.script script is.spelled good.spelled in
      let logged : IsLogOf (board_for files script) script.version script.phases (files log) =
      subst (λ said. IsLogOf (board_for files said) said.version said.phases (files log)) same
      (record { history = is.history; legal = is.legal; complete = is.order; text = is.text }) in
      (with_log files script log, (with_disk files script, board_read, (fits, refl)), (script, refl, logged))

  of_log : (log : List ℕ) (read other : Script) (setup : Setup) (log_read : List ℕ) → IsScriptText (files name) read →
      other ≡ read → setup ≡ board_for files read → log_read ≡ files log →
      IsLogOf setup other.version other.phases log_read → IsAccepted files name (files log)
  of_log log read other setup log_read spelled other_is setup_is log_is says =
      let of_script = rw other_is at says in
      let of_bytes = rw log_is at of_script in
      let is = rw setup_is at of_bytes in
      record {
        script = read;
        spelled = spelled;
        history = is.history;
        order = is.complete;
        legal = is.legal;
        text = is.text;
      }

  accepted : (log : List ℕ) → AsksFor (Check name log) files Done → IsAccepted files name (files log)
  accepted log (known, fourth, said) =
      let third = fourth.1 in
      let second = third.1 in
      let first = second.1 in
      let got = learnt files name first.0 second.0 third.0 fourth.0 first.1 first.2 second.2 third.2 in
      let known_is = log_learnt files got.script log fourth.0 known got.known_is fourth.2 in
      let same = logged_board files got.script said.0 log known known_is said.1 in
      of_log log got.script said.0 (board_of known said.0) known.log got.spelled same.board.0 same.board.1 same.log_is
      said.2

  to_be_done : IsToBeDone files name
  to_be_done = record {
    replay = (with_disk files script, board_read, tt);
    run = (with_disk files script, board_read, tt);
    check = λ log fits. (accepted log, accepts log fits);
  }

pub good_files_are_done : OneScript → GoodFilesAreDone
good_files_are_done one_script files name script good = to_be_done one_script files name script good
