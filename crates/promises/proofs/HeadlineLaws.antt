-- The headline can be met, leaves `replay` one text, and is what `check` accepts.
use Rattle.std.proofs.Common.{◌≡◌, ℕ, List, All, arith, sym, refl}
use Rattle.board_prelude.proofs.{nat_tests}
use Rattle.board_spec.specs.declared.event.Entry.{Entry}
use Rattle.board_spec.specs.declared.event.Event.{Event}
use Rattle.board_spec.specs.declared.event.Statement.{Statement}
use Rattle.board_spec.specs.Setup.{Setup}
use Rattle.board_spec.specs.Legal.{IsLegal}
use Rattle.board_spec.specs.Orders.{IsReplayOf}
use Rattle.board_spec.specs.Laws.{OneReplay, SomeReplay, LegalKeepsLock, IsAddressed}
use Rattle.board_spec.specs.InRange.{IsInRange}
use Rattle.board_spec.specs.OrderLaws.{in_file_order}
use Rattle.board_spec.specs.LogText.{log_text}
use Rattle.board_spec.proofs.OrderLawProofs.{replay_is_complete}
use Rattle.script_spec.specs.ScriptText.{Script, IsScriptText}
use Rattle.script_spec.specs.Laws.{OneScript, ScriptsAreInRange}
use Rattle.promises.specs.Headline.{board_for, IsHeadline, InFileOrder, InRunOrder}
use Rattle.promises.specs.Laws.{SomeReplayLog, SomeRunLog, OneReplayLog, ReplaysAreAccepted, RunsAreAccepted}
use Rattle.promises.specs.Laws.{AcceptedAreLogged}
use Rattle.promises.proofs.Addresses.{LooksAtAddress, looks_at_addresses}
use Rattle.promises.proofs.RunOrders.{some_run}
use Rattle.promises.proofs.Headlines.{looks_show}

-- ---- it can be met

addressed : (setup : Setup) (event : Event) → IsInRange setup event → LooksAtAddress event → IsAddressed event
addressed setup event in_range look = grind (arith, nat_tests)

-- the log of a legal history with such an order
logged : LegalKeepsLock → (InOrder : Setup → List (List Statement) → List Entry → Type 0) →
    (files : List ℕ → List ℕ) (name : List ℕ) (script : Script) → IsScriptText (files name) script →
    (history : List Entry) → IsLegal (board_for files script) history →
    InOrder (board_for files script) script.phases history →
    (log : List ℕ) × IsHeadline InOrder files name log
logged keeps InOrder files name script spelled history legal order =
    let setup = board_for files script in (
      log_text script.version history,
      record {
        script = script;
        spelled = spelled;
        said = record {
          history = history;
          order = order;
          legal = legal;
          looks = looks_show setup history legal;
          locked = keeps setup history legal;
          text = refl;
        };
      },
    )

module _ (some_replay : SomeReplay) (keeps : LegalKeepsLock) (in_range : ScriptsAreInRange) where
  -- what a script says can be asked of its board
  all_addressed : (files : List ℕ → List ℕ) (name : List ℕ) (script : Script) → IsScriptText (files name) script →
      All (λ statement. IsAddressed statement.event) (in_file_order script.phases)
  all_addressed files name script spelled =
      let setup = board_for files script in
      let scripted = (in_range (files name) script spelled).each setup refl in
      let look = looks_at_addresses (files name) script spelled in
      λ i d within. addressed setup _ (scripted i d within).event (look i d within)

  pub some_replay_log : SomeReplayLog
  some_replay_log = λ files name script spelled.
      let setup = board_for files script in
      let found =
      some_replay setup (in_file_order script.phases) (all_addressed files name script spelled) in
      logged keeps InFileOrder files name script spelled found.history found.replay.legal found.replay.same

  pub some_run_log : SomeRunLog
  some_run_log = λ files name script spelled.
      let setup = board_for files script in
      let scripted = (in_range (files name) script spelled).each setup refl in
      let found =
      some_run some_replay setup script.phases script.cpus (all_addressed files name script spelled)
      (λ i d within. (scripted i d within).actor) in
      logged keeps InRunOrder files name script spelled found.history found.legal found.order

-- ---- it leaves one text

module _ (one_replay : OneReplay) (one_script : OneScript) (files : List ℕ → List ℕ) (name : List ℕ) where
  same_history : (script other : Script) (left right : List Entry) → script ≡ other →
      IsReplayOf (board_for files script) (in_file_order script.phases) left →
      IsReplayOf (board_for files other) (in_file_order other.phases) right → left ≡ right
  same_history script other left right is first second =
      let again = rw (sym is) at second in
      one_replay (board_for files script) (in_file_order script.phases) left right first again

  same_log : (left right : List ℕ) → IsHeadline InFileOrder files name left →
      IsHeadline InFileOrder files name right → left ≡ right
  same_log left right first second =
      let script = one_script (files name) first.script second.script first.spelled second.spelled in
      let history =
      same_history first.script second.script first.said.history second.said.history script
      (record { legal = first.said.legal; same = first.said.order })
      (record { legal = second.said.legal; same = second.said.order }) in
      grind (arith, script, history, first.said.text, second.said.text)

pub one_replay_log : OneReplay → OneScript → OneReplayLog
one_replay_log one_replay one_script = λ files name left right. same_log one_replay one_script files name left right

-- ---- it is what `check` accepts

pub replays_are_accepted : ReplaysAreAccepted
replays_are_accepted = λ files name log is. record {
  script = is.script;
  spelled = is.spelled;
  history = is.said.history;
  order =
      replay_is_complete (board_for files is.script) is.script.phases is.said.history
      (record { legal = is.said.legal; same = is.said.order });
  legal = is.said.legal;
  text = is.said.text;
}

pub runs_are_accepted : RunsAreAccepted
runs_are_accepted = λ files name log is. record {
  script = is.script;
  spelled = is.spelled;
  history = is.said.history;
  order = is.said.order.0;
  legal = is.said.legal;
  text = is.said.text;
}

pub accepted_are_logged : LegalKeepsLock → AcceptedAreLogged
accepted_are_logged keeps = λ files name log. (
  λ is. record {
    script = is.script;
    spelled = is.spelled;
    said = record {
      history = is.history;
      order = is.order;
      legal = is.legal;
      looks = looks_show (board_for files is.script) is.history is.legal;
      locked = keeps (board_for files is.script) is.history is.legal;
      text = is.text;
    };
  },
  λ is. record {
    script = is.script;
    spelled = is.spelled;
    history = is.said.history;
    order = is.said.order;
    legal = is.said.legal;
    text = is.said.text;
  },
)
