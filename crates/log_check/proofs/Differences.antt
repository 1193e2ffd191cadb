-- Where a walk stops, the bytes leave the logs of the script.
use Rattle.std.proofs.Common.{ℕ, zero, suc, ◌≡◌, ◌≢◌, ◌+◌, ◌-◌, List, [], ◌∷◌, ◌++◌, length, reverse, refl, sym, ap}
use Rattle.std.proofs.Common.{◌∙◌, All, append_assoc, append-nil, arith}
use Rattle.board_prelude.proofs.{common_steps, nat_tests, All-nil, All-push, All-cons, Entry, Setup, IsCompleteFor}
use Rattle.board_prelude.proofs.{in_file_order, line_feed, line_text, lines_text, log_text, complete_is_begun}
use Rattle.board_prelude.proofs.{none_so_far, reverse-reverse, begun_is_bounded, whole_is_complete, complete_is_whole}
use Rattle.board_prelude.proofs.{begun_goes_on}
use Rattle.board_prelude.specs.{Statement}
use Rattle.script_spec.specs.Lines.{text_of_lines, IsOneLine}
use Rattle.script_spec.specs.Checks.{AreBegun, IsLogOf, DiffersAt}
use Rattle.script_spec.proofs.LogLaws.{log_lines}
use Rattle.log_check.specs.Walks.{GoesOnWithNone, StopsAt}
use Rattle.log_check.proofs.LogLines.{log-newest, lines_in, lines_are, lines_each, lines_count, stand_first, StandFirst}
use Rattle.log_check.proofs.Histories.{Known, Runs, same_history, no_longer}
use Rattle.logs.specs.Reading.{heading}

module _ {setup : Setup} {version : ℕ} {phases : List (List Statement)} (known : Known setup phases) where
  -- lines that begin the log of a begun history begin a log: as many entries as are left complete it
  begins : (left : ℕ) (history : List Entry) (lines : List (List ℕ)) (rest : List ℕ) → Runs setup phases history →
      length history + left ≡ length (in_file_order phases) → text_of_lines lines ++ rest ≡ log_text version history →
      AreBegun (IsLogOf setup version phases) lines
  begins zero history lines rest runs count text = record {
    later = rest;
    text = record {
      history = history;
      legal = runs.0;
      complete = whole_is_complete phases history runs.1 (omega (arith, count));
      text = text;
    };
  }
  begins (suc left) history lines rest runs count text =
      let next = begun_goes_on setup phases history known.addressed runs.0 runs.1
      (λ complete. omega (arith, count, complete_is_whole phases history complete)) in
      let newest = log-newest version next.entry history [] in
      begins left (next.entry ∷ history) lines
      (rest ++ line_text (length history + 1) next.entry ++ line_feed ∷ []) ((next.next, runs.0), next.begun)
      (omega (arith, count)) (grind (arith, nat_tests, append_assoc, append-nil, newest))

  begun_log : (history : List Entry) (lines : List (List ℕ)) (rest : List ℕ) → Runs setup phases history →
      text_of_lines lines ++ rest ≡ log_text version history → AreBegun (IsLogOf setup version phases) lines
  begun_log history lines rest runs text =
      begins (length (in_file_order phases) - length history) history lines rest runs
      (omega (arith, begun_is_bounded phases history runs.1)) text

  log_lines_first : (lines : List (List ℕ)) (rest : List ℕ) → All IsOneLine lines →
      (log : IsLogOf setup version phases (text_of_lines lines ++ rest)) →
      StandFirst lines rest (lines_in version log.history)
  log_lines_first lines rest each log =
      stand_first lines rest (lines_in version log.history) each (lines_each version log.history)
      (log.text ∙ sym (lines_are version log.history))

  log_runs : (bytes : List ℕ) (log : IsLogOf setup version phases bytes) → Runs setup phases log.history
  log_runs bytes log = (log.legal, complete_is_begun phases log.history log.complete)

  no_log : (history : List Entry) (rest : List ℕ) → GoesOnWithNone setup phases history rest →
      (rest ≡ [] → ¬ IsCompleteFor phases history) → Runs setup phases history → (bytes : List ℕ) →
      (log : IsLogOf setup version phases bytes) (more : List (List ℕ)) →
      log_lines log.history ≡ log_lines history ++ more → rest ≡ text_of_lines more → ⊥
  no_log history rest none unfinished runs bytes log [] is text =
      let same = same_history known log.history history (log_runs bytes log) runs
      (is ∙ append-nil (log_lines history)) in
      unfinished text (rw same at log.complete)
  no_log history rest none unfinished runs bytes log (this ∷ more) is text =
      no_longer known history log.history rest this (text_of_lines more) (reverse more) none
      (text ∙ append_assoc this (line_feed ∷ []) (text_of_lines more)) runs (log_runs bytes log)
      (rw (reverse-reverse more) is)

  pub differs : (bytes : List ℕ) (entries : List Entry) (line : ℕ) →
      StopsAt setup version phases bytes entries line → DiffersAt setup version phases bytes line
  differs bytes entries line stops =
      let history : List Entry = stops.at_line.before in
      let rest : List ℕ = stops.at_line.rest in
      let lines : List (List ℕ) = lines_in version history in
      let runs : Runs setup phases history = (stops.legal, stops.begun) in
      let cut : bytes ≡ text_of_lines lines ++ rest =
      stops.at_line.text ∙ ap (λ (t : List ℕ). t ++ rest) (sym (lines_are version history)) in
      record {
        before = lines;
        each = lines_each version history;
        rest = rest;
        cut = cut;
        place = omega (arith, stops.at_line.place, lines_count history);
        begun = begun_log history lines [] runs (append-nil (text_of_lines lines) ∙ lines_are version history);
        leaves = λ this after single is begun.
            let first = log_lines_first (lines ++ this ∷ []) begun.later
            (All-push IsOneLine lines this (lines_each version history) single) begun.text in
            no_longer known history begun.text.history rest this after (reverse first.more) stops.none is runs
            (log_runs _ begun.text) (grind (arith, nat_tests, common_steps, first.is, reverse-reverse first.more));
        other = λ log.
            let whole = rw cut at log in
            let first = log_lines_first lines rest (lines_each version history) whole in
            no_log history rest stops.none stops.unfinished runs _ whole first.more (cc (first.is)) first.text;
      }

  -- bytes that do not begin with the heading leave the logs of the script at once
  pub differs_at_once : (bytes : List ℕ) → ((after : List ℕ) → bytes ≢ log_text version [] ++ after) →
      DiffersAt setup version phases bytes 1
  unfolding lines_text
  differs_at_once bytes none = record {
    before = [];
    each = All-nil IsOneLine;
    rest = bytes;
    cut = refl;
    place = refl;
    begun = begun_log [] [] (log_text version []) (tt, none_so_far phases) refl;
    leaves = λ this after single is begun.
        let first = log_lines_first (this ∷ []) begun.later
        (All-cons IsOneLine this [] single (All-nil IsOneLine)) begun.text in
        let same : heading version ≡ this = cc (first.is) in
        none after (is ∙ rw (← same) (sym (append_assoc (heading version) (line_feed ∷ []) after)));
    other = λ log. none (lines_text log.history)
        (log.text ∙ sym (append_assoc (heading version) (line_feed ∷ []) (lines_text log.history)));
  }
