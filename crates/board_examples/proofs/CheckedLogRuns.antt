-- The worked texts of logs and maps.
use Rattle.std.proofs.Common.{ℕ, ◌≡◌, ◌+◌, ◌==◌, true, List, [], ◌∷◌, ◌++◌, length, codes, refl, if◌then◌else◌, get_or}
use Rattle.std.proofs.Common.{take, arith, inl, inr, sym, ap, ◌∙◌, rules}
use Rattle.board_prelude.proofs.{digits, All-nil, Entry, line_feed, event_text, reply_text, line_text, lines_text}
use Rattle.board_prelude.proofs.{log_text, complete_is_whole}
use Rattle.board_examples.specs.Basics.{small_board}
use Rattle.board_examples.specs.Orders.{phases, look_last, LookLast, LookLastLogged, LookFirstLogged}
use Rattle.board_examples.specs.CheckedLogs.{NoEntries, NoSuchVersion, EmptyLog, EmptyLogDiffers, CutLogDiffers}
use Rattle.board_examples.specs.CheckedLogs.{OpenLogDiffers, LongLogDiffers, order_lines, last_line}
use Rattle.board_examples.specs.Roms.{ExpansionRomLogged}
use Rattle.board_examples.specs.Wide.{CutInPartsLogged, OverSmramLogged}
use Rattle.board_examples.specs.Maps.{MapAfterResetWritten}
use Rattle.script_spec.specs.Lines.{text_of_lines, IsOneLine}
use Rattle.script_spec.specs.ScriptText.{IsVersion}
use Rattle.script_spec.specs.WellFormed.{IsWellFormed}
use Rattle.script_spec.specs.Checks.{AreBegun, IsSomeLog, IsLogOf}
use Rattle.script_spec.proofs.Digits.{lacks, front, front-field, lacks-first, lacks-later}
use Rattle.script_spec.proofs.LogLaws.{line_whole, nothing_more}
use Rattle.script_spec.proofs.CheckLaws.{lacks-line, one_line}
use Rattle.std.proofs.lemmas.List.Elements.{All-from_recursion}
use Rattle.board_examples.proofs.LookRuns.{orders}
use Rattle.board_examples.specs.Logs.{VgaBesideSmramLogged, ConfigurationPortsLogged, TwoCardsLogged, XbcsLogged}
use Rattle.board_examples.specs.Logs.{OutsideLogged}
use Rattle.board_examples.specs.Targets.{DeviceLinesLogged, MemoryLinesLogged}

-- some log begins with no lines
some_begun : AreBegun IsSomeLog []
some_begun = record {
  later = log_text 1 [];
  text = record {
    version = 1;
    entries = [];
    log = record { known = inl refl; each = All-nil (IsWellFormed 1); text = refl };
  };
}

-- the heading of a log has the version 1 or 2
heading_byte : (version : ℕ) (entries : List Entry) → IsVersion version →
    get_or (log_text version entries) 11 0 ≡ 0x33 → ⊥
unfolding digits
heading_byte version entries (inl one) e = let byte : 0x31 ≡ 0x33 = rw one at e in omega (arith, byte)
heading_byte version entries (inr two) e = let byte : 0x32 ≡ 0x33 = rw two at e in omega (arith, byte)

pub texts : NoEntries × NoSuchVersion × EmptyLog
unfolding NoEntries NoSuchVersion EmptyLog digits lines_text
texts = (
  record { known = inr refl; each = All-nil (IsWellFormed 2); text = refl },
  record {
    before = [];
    each = All-nil IsOneLine;
    rest = text_of_lines (codes "access log 3" ∷ []);
    cut = refl;
    place = refl;
    begun = some_begun;
    leaves = λ this after one whole begun.
        let first : codes "access log 3" ≡ this = ap (front line_feed) whole ∙ front-field line_feed this after
        (lacks-line this one) in
        let text = rw (← first) at begun.text.log.text in
        heading_byte begun.text.version begun.text.entries begun.text.log.known (sym (ap (λ
        (l : List ℕ). get_or l 11 0) text));
    other = λ log. heading_byte log.version log.entries log.log.known (sym (ap (λ
        (l : List ℕ). get_or l 11 0) log.log.text));
  },
  record {
    before = [];
    each = All-nil IsOneLine;
    rest = [];
    cut = refl;
    place = refl;
    begun = some_begun;
    leaves = λ this after one whole begun. nothing_more this after whole;
    other = λ log. cc (log.log.text);
  },
)

-- ---- held against a script

abbrev OrderLog : List ℕ → Type 0
OrderLog bytes = IsLogOf small_board 1 phases bytes

order_log : OrderLog (log_text 1 look_last)
unfolding LookLast
order_log = record { history = look_last; legal = orders.0.0.legal; complete = orders.0.1; text = refl }

abbrev feeds : List ℕ → ℕ
feeds [] = 0
feeds (c ∷ cs) = (if c == line_feed then 1 else 0) + feeds cs

feeds-append : (xs ys : List ℕ) → feeds (xs ++ ys) ≡ feeds xs + feeds ys
feeds-append [] ys = omega arith
feeds-append (c ∷ cs) ys = omega (arith, feeds-append cs ys)

feeds-none : (xs : List ℕ) → lacks line_feed xs ≡ true → feeds xs ≡ 0
feeds-none [] lack = refl
feeds-none (c ∷ cs) lack =
    rw (lacks-first line_feed c cs lack) (omega (arith, feeds-none cs (lacks-later line_feed c cs lack)))

-- each entry has just one line feed
feeds-lines : (history : List Entry) → feeds (lines_text history) ≡ length history
unfolding lines_text
feeds-lines [] = refl
feeds-lines (entry ∷ before) =
    let line : List ℕ = line_text (length before + 1) entry in
    let none : feeds line ≡ 0 = feeds-none line (lacks-line line (line_whole (length before + 1) entry)) in
    simp (feeds-append, none, feeds-lines before) (omega arith)

feeds-log : (history : List Entry) → feeds (log_text 1 history) ≡ length history + 1
unfolding digits
feeds-log history = simp feeds-lines (omega arith)

-- a complete history has an entry for each statement, so the log has four line feeds
four_feeds : (bytes : List ℕ) → OrderLog bytes → feeds bytes ≡ 4
four_feeds bytes log =
    let three : length log.history ≡ 3 = complete_is_whole phases log.history log.complete in
    rw (log.text, feeds-log log.history, three) refl

whole_log : text_of_lines order_lines ++ (last_line ++ line_feed ∷ []) ≡ log_text 1 look_last
unfolding digits event_text reply_text line_text lines_text
whole_log = refl

abbrev whole_lines : List (List ℕ)
whole_lines = order_lines ++ last_line ∷ []

-- no log has a fifth line
fifth_line : (this : List ℕ) → AreBegun OrderLog (whole_lines ++ this ∷ []) → ⊥
fifth_line this begun =
    let four : feeds (text_of_lines (whole_lines ++ this ∷ []) ++ begun.later) ≡ 4 = four_feeds _ begun.text in
    let parts = simp feeds-append at four in
    omega arith

pub differences : EmptyLogDiffers × CutLogDiffers × OpenLogDiffers × LongLogDiffers
unfolding EmptyLogDiffers CutLogDiffers OpenLogDiffers LongLogDiffers
differences = (
  record {
    before = [];
    each = All-nil IsOneLine;
    rest = [];
    cut = refl;
    place = refl;
    begun = record { later = log_text 1 look_last; text = order_log };
    leaves = λ this after one whole begun. nothing_more this after whole;
    other = λ log. cc (log.text);
  },
  record {
    before = take 2 order_lines;
    each = All-from_recursion IsOneLine (take 2 order_lines) (search one_line);
    rest = [];
    cut = refl;
    place = refl;
    begun = record {
      later = codes "2 0.2 out b 0CFD 10 = - config:00.0.59 -" ++ line_feed ∷ (last_line ++ line_feed ∷ []);
      text = rw whole_log order_log;
    };
    leaves = λ this after one whole begun. nothing_more this after whole;
    other = λ log. let e : 2 ≡ 4 = four_feeds _ log in omega arith;
  },
  record {
    before = order_lines;
    each = All-from_recursion IsOneLine order_lines (search one_line);
    rest = last_line;
    cut = refl;
    place = refl;
    begun = record { later = last_line ++ line_feed ∷ []; text = rw whole_log order_log };
    leaves = λ this after one whole begun.
        let none : 0 ≡ feeds this + feeds (line_feed ∷ after) =
        ap feeds whole ∙ feeds-append this (line_feed ∷ after) in
        omega arith;
    other = λ log. let e : 3 ≡ 4 = four_feeds _ log in omega arith;
  },
  record {
    before = whole_lines;
    each = All-from_recursion IsOneLine whole_lines (search one_line);
    rest = codes "4 0.3 ack = 07 spur0 -" ++ line_feed ∷ [];
    cut = refl;
    place = refl;
    begun = record { later = []; text = rw whole_log order_log };
    leaves = λ this after one whole begun. fifth_line this begun;
    other = λ log. let e : 5 ≡ 4 = four_feeds _ log in omega arith;
  },
)

-- ---- computed from the definitions of their texts

pub logged :
    VgaBesideSmramLogged × ConfigurationPortsLogged × TwoCardsLogged × XbcsLogged × OutsideLogged × LookLastLogged ×
    LookFirstLogged × ExpansionRomLogged × CutInPartsLogged × OverSmramLogged × DeviceLinesLogged × MemoryLinesLogged
    × MapAfterResetWritten
unfolding VgaBesideSmramLogged ConfigurationPortsLogged TwoCardsLogged XbcsLogged OutsideLogged LookLastLogged
    LookFirstLogged ExpansionRomLogged CutInPartsLogged OverSmramLogged DeviceLinesLogged MemoryLinesLogged
    MapAfterResetWritten digits event_text reply_text line_text lines_text
logged = search rules
