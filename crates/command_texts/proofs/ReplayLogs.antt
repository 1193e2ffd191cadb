-- One entry more in the log of a replay.
use Rattle.std.proofs.Common.{ℕ, ◌≡◌, ◌+◌, ◌<◌, List, [], ◌∷◌, ◌++◌, length, take, get_or, refl, sym, ap, ◌∙◌}
use Rattle.std.proofs.Common.{append_assoc, append-nil, add-one, slice_index}
use Rattle.board_prelude.proofs.{take_more, Entry, line_feed, line_text, log_text, statements-newest}
use Rattle.board_prelude.specs.{Statement}
use Rattle.board_spec.specs.declared.event.Reply.{Reply}
use Rattle.board_core.specs.Kept.{Playing, HasPlayed, entry_of}
use Rattle.logs.specs.LinesFrom.{entry_with}
use Rattle.log_check.proofs.LogLines.{log-newest as newest_line}
use Rattle.command_texts.specs.ReplayLog.{HasLog}

-- the newest entry has the last line
log-newest : (version : ℕ) (entry : Entry) (history : List Entry) (n : ℕ) → n ≡ length history + 1 →
    log_text version (entry ∷ history) ≡ log_text version history ++ (line_text n entry ++ line_feed ∷ [])
log-newest version entry history n is =
    sym (append-nil (log_text version (entry ∷ history)))
    ∙ newest_line version entry history []
    ∙ ap (λ (k : ℕ). log_text version history ++ (line_text k entry ++ line_feed ∷ [])) (sym is)

-- a statement of a phase that got this reply has the next line
pub log_answered :
    (version : ℕ) (now new : Playing) (said phase : List Statement) (i : ℕ) (d : Statement) (reply : Reply) (n seq : ℕ)
    (text after : List ℕ) → i < length phase → n ≡ new.count →
    ((history : List Entry) → HasPlayed now history →
    HasPlayed new (entry_of new (get_or phase i d).actor (get_or phase i d).event reply ∷ history)) →
    seq ≡ slice_index new.counts (get_or phase i d).actor →
    after ≡ text
    ++ (line_text n (entry_with (get_or phase i d).actor seq (get_or phase i d).event reply) ++ line_feed ∷ []) →
    HasLog version now (said ++ take i phase) text → HasLog version new (said ++ take (i + 1) phase) after
log_answered version now new said phase i d reply n seq text after within number played last more so_far =
    let here : Statement = get_or phase i d in
    let entry : Entry = entry_of new here.actor here.event reply in
    let history = so_far.history in
    let goes_on : HasPlayed new (entry ∷ history) = played history so_far.played in
    let is : n ≡ length history + 1 = number ∙ goes_on.count ∙ sym (add-one (length history)) in
    record {
      history = entry ∷ history;
      played = goes_on;
      same =
          rw (statements-newest entry history, so_far.same, take_more phase i d within)
          (append_assoc said (take i phase) (here ∷ []));
      log = rw (more, last, so_far.log, log-newest version entry history n is) refl;
    }
