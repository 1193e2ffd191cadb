-- Where the bytes of a log stop being one.
use Rattle.board_prelude.proofs.{common_steps, nat_tests, reverse-append, reverse-reverse, append_cancel_left}
use Rattle.board_prelude.proofs.{length-append, All-nil, All-cons, All-head, All-tail, All-push, Entry, line_feed}
use Rattle.board_prelude.proofs.{line_text, lines_text, log_text}
use Rattle.std.proofs.Common.{◌≡◌, ◌≢◌, ℕ, ◌+◌, true, Some, None, List, [], ◌∷◌, ◌++◌, length, reverse, get_or, All}
use Rattle.std.proofs.Common.{refl, sym, ap, subst, ◌∙◌, inl, inr, append_assoc, append-nil, arith, Result, IfErr}
use Rattle.std.proofs.Common.{IsErrAnd, codes, decimal, drop}
use Rattle.std.proofs.lemmas.List.{same_from_push}
use Rattle.script_spec.specs.Lines.{text_of_lines, IsOneLine}
use Rattle.script_spec.specs.ScriptText.{IsVersion}
use Rattle.script_spec.specs.WellFormed.{IsWellFormed}
use Rattle.script_spec.specs.Checks.{IsLogText, IsSomeLog, IsBadLog}
use Rattle.script_spec.specs.Cuts.{cut}
use Rattle.script_spec.proofs.Digits.{lacks, lacks-append, cut_field, cut_joined}
use Rattle.script_spec.proofs.PlainText.{lacks-word, decimal_word}
use Rattle.script_spec.proofs.CheckLaws.{one_line, compared}
use Rattle.script_spec.proofs.LogLaws.{log_lines, lines_joined, lines_whole, nothing_more}
use Rattle.script_spec.proofs.Chains.{some_is}
use Rattle.logs.specs.declared.fault.LogFault.{LogFault}
use Rattle.logs.specs.declared.fault.LogFault.TheVariants.{Bad, NoMemory}
use Rattle.logs.specs.Reading.{NamesBad, heading, parse_heading, HasNoEntry, IsBadAfter}
use Rattle.logs.proofs.ReadLines.{version_said, version_known}

-- ---- the lines of a whole log

abbrev whole : (version : ℕ) → List Entry → List (List ℕ)
whole version history = heading version ∷ log_lines history

log_is : (version : ℕ) (history : List Entry) → log_text version history ≡ text_of_lines (whole version history)
log_is version history = rw (lines_joined history) (simp append_assoc)

heading_lacks : (version : ℕ) → lacks line_feed (heading version) ≡ true
heading_lacks version =
    lacks-append line_feed (codes "access log ") (decimal version) refl
    (lacks-word line_feed (decimal version) refl (decimal_word version))

each_line : (version : ℕ) (history : List Entry) → All IsOneLine (whole version history)
each_line version history = grind (arith, nat_tests, All-cons, one_line, heading_lacks, lines_whole)

-- lines that begin a log are its first
begins : (lines : List (List ℕ)) (later : List ℕ) (version : ℕ) (history : List Entry) → All IsOneLine lines
    → text_of_lines lines ++ later ≡ log_text version history → (more : List (List ℕ)) ×
    (whole version history ≡ lines ++ more) × (later ≡ text_of_lines more)
begins lines later version history each same =
    let cases = compared lines later (whole version history) [] each (each_line version history) in
    grind (arith, nat_tests, cases, log_is version history, append-nil, append_assoc, append_cancel_left, nothing_more)

lines_length : (history : List Entry) → length (log_lines history) ≡ length history
lines_length [] = refl
lines_length (entry ∷ before) = grind (arith, common_steps, length-append, lines_length before)

-- each line of a log is that of an entry
line_said : (P : Entry → Type 0) (entries : List Entry) (front : List (List ℕ)) (this : List ℕ)
    (later : List (List ℕ)) → All P entries → log_lines entries ≡ front ++ this ∷ reverse later
    → (entry : Entry) × P entry × (this ≡ line_text (length front + 1) entry)
line_said P [] front this later each is =
    absurd (omega (arith, ap length is, length-append front (this ∷ reverse later)))
line_said P (entry ∷ before) front this [] each is =
    let cut = same_from_push (log_lines before) front (line_text (length before + 1) entry) this is in
    (entry, All-head P entry before each, sym cut.1 ∙ rw (← cut.0, lines_length before) refl)
line_said P (entry ∷ before) front this (last ∷ later) each is =
    let moved = reverse-append (last ∷ []) later in
    let cut = same_from_push (log_lines before) (front ++ this ∷ reverse later)
    (line_text (length before + 1) entry) last (grind (arith, nat_tests, common_steps, is, moved)) in
    line_said P before front this later (All-tail P entry before each) cut.0

-- no log goes on where no entry's line does
clash : (version other : ℕ) (history entries : List Entry) (this : List ℕ) (more : List (List ℕ)) (rest after : List ℕ)
    → IsVersion version → IsVersion other → All (IsWellFormed other) entries
    → whole other entries ≡ whole version history ++ this ∷ more
    → HasNoEntry version (length history + 1) rest → rest ≡ this ++ line_feed ∷ after → ⊥
clash version other history entries this more rest after known its each same none is =
    let later : log_lines entries ≡ log_lines history ++ this ∷ more = ap (λ (lines : List (List ℕ)). drop 1 lines)
    same in
    let first : heading other ≡ heading version = ap (λ (lines : List (List ℕ)). get_or lines 0 []) same in
    let versions : other ≡ version =
    some_is other version (sym (version_known other its) ∙ ap parse_heading first ∙ version_known version known) in
    let found = line_said (IsWellFormed other) entries (log_lines history) this (reverse more) each
    (rw (reverse-reverse more) later) in
    let line : this ≡ line_text (length history + 1) found.0 = rw (← (lines_length history)) found.2 in
    none found.0 after (record {
      formed = subst (λ (v : ℕ). IsWellFormed v found.0) versions found.1;
      line = is ∙ ap (λ (text : List ℕ). text ++ line_feed ∷ after) line;
    })

-- ---- bad headings

abbrev HasNoHeading : List ℕ → Type 0
HasNoHeading bytes = (version : ℕ) (after : List ℕ) → IsVersion version → bytes ≢ heading version ++ line_feed ∷ after

some_log : (version : ℕ) (history : List Entry) (text : List ℕ) → IsVersion version
    → All (IsWellFormed version) history → text ≡ log_text version history → IsSomeLog text
some_log version history text known each is =
    record { version = version; entries = history; log = record { known = known; each = each; text = is } }

bad_heading : (bytes : List ℕ) → HasNoHeading bytes → IsBadLog bytes 1
bad_heading bytes none = record {
  before = [];
  each = All-nil IsOneLine;
  rest = bytes;
  cut = refl;
  place = refl;
  begun = record {
    later = log_text 1 [];
    text = some_log 1 [] (log_text 1 []) (inl refl) (All-nil (IsWellFormed 1)) refl;
  };
  leaves = λ this after one is begun.
      let log = begun.text.log in
      let on = begins (this ∷ []) begun.later begun.text.version begun.text.entries
      (All-cons IsOneLine this [] one (All-nil IsOneLine)) log.text in
      none begun.text.version after log.known (cc (is, on.1));
  other = λ some. none some.version (lines_text some.entries) some.log.known some.log.text;
}

pub bad_uncut : (bytes : List ℕ) → None ≡ cut line_feed bytes → IsBadLog bytes 1
bad_uncut bytes uncut = bad_heading bytes (λ version after known is.
    absurd (cc (uncut, is, cut_field line_feed (heading version) after (heading_lacks version))))

pub bad_version : (bytes line after : List ℕ) → Some (line, after) ≡ cut line_feed bytes → None ≡ parse_heading line
    → IsBadLog bytes 1
bad_version bytes line after parts none = bad_heading bytes (λ version later known is.
    let whole = cut_field line_feed (heading version) later (heading_lacks version) in
    let same = some_is (line, after) (heading version, later) (parts ∙ rw is whole) in
    absurd (cc (none, ap (λ (p : List ℕ × List ℕ). parse_heading p.0) same, version_known version known)))

-- ---- bad lines after the heading

module _ (bytes heading_line lines : List ℕ) (version : ℕ) (parts : Some (heading_line, lines) ≡ cut line_feed bytes)
    (named : Some version ≡ parse_heading heading_line) where
  said : IsVersion version × (heading_line ≡ heading version)
  said = version_said heading_line version (sym named)

  -- the text is that of the lines in front with the rest after it
  text_is : (front rest : List ℕ) → lines ≡ front ++ rest → bytes ≡ (heading version ++ line_feed ∷ front) ++ rest
  text_is front rest is =
      rw (cut_joined line_feed bytes heading_line lines (sym parts), said.1, is) (simp append_assoc)

  bad_after : (line : ℕ) → IsBadAfter version lines line → IsBadLog bytes line
  bad_after line bad =
      let before : List (List ℕ) = whole version bad.history in
      let each : All IsOneLine before = each_line version bad.history in
      let cut : bytes ≡ text_of_lines before ++ bad.rest =
      text_is (lines_text bad.history) bad.rest bad.cut
      ∙ ap (λ (text : List ℕ). text ++ bad.rest) (log_is version bad.history) in
      record {
        before = before;
        each = each;
        rest = bad.rest;
        cut = cut;
        place = bad.place ∙ omega (arith, lines_length bad.history);
        begun = record {
          later = [];
          text = some_log version bad.history (text_of_lines before ++ []) said.0 bad.each
              (append-nil (text_of_lines before) ∙ sym (log_is version bad.history));
        };
        leaves = λ this after one is begun.
            let log = begun.text.log in
            let on = begins (before ++ this ∷ []) begun.later begun.text.version begun.text.entries
            (All-push IsOneLine before this each one) log.text in
            clash version begun.text.version bad.history begun.text.entries this on.0 bad.rest after said.0 log.known
            log.each (on.1 ∙ append_assoc before (this ∷ []) on.0) bad.none is;
        other = λ some.
            let same = sym cut ∙ some.log.text ∙ log_is some.version some.entries in
            let lines = whole some.version some.entries in
            elim (compared before bad.rest lines [] each (each_line some.version some.entries)
            (same ∙ sym (append-nil (text_of_lines lines)))) [
              | inl all ↦
                  bad.some (append_cancel_left (text_of_lines before) bad.rest []
                  (same ∙ ap text_of_lines (sym all) ∙ sym (append-nil (text_of_lines before))))
              | inr (inl on) ↦
                  clash version some.version bad.history some.entries on.this on.more bad.rest
                  (text_of_lines on.more ++ []) said.0 some.log.known some.log.each on.is bad.none on.whole
              | inr (inr on) ↦ nothing_more on.this (text_of_lines on.more ++ bad.rest) on.whole
            ];
      }

  pub names_bad : (fault : LogFault) → NamesBad (IsBadAfter version lines) fault → NamesBad (IsBadLog bytes) fault
  names_bad (Bad line) bad = bad_after line bad
  names_bad NoMemory bad = tt

  -- ---- whole logs

  pub good_log : (entries : List Entry) → lines ≡ lines_text (reverse entries)
      → All (IsWellFormed version) (reverse entries) → IsLogText version (reverse entries) bytes
  good_log entries is each = record {
    known = said.0;
    each = each;
    text = rw append-nil at (text_is (lines_text (reverse entries)) [] (rw append-nil is));
  }

pub passed_on : {T : Type 0} (result : Result T LogFault) (fault : LogFault) (Named : LogFault → Type 0) →
    IsErrAnd result (λ given. given ≡ fault) → Named fault → IfErr result Named
passed_on result fault Named is named = grind (arith, nat_tests)

-- `read_log` is proved by these
pub ruleset read_log_rules = (bad_uncut, bad_version, good_log)
