-- A line of the log is taken apart and says its entry, and a log says its version and its history.
use Rattle.board_prelude.proofs.{nat_tests, common_steps, digits, flat_map-append, reverse-append, reverse-reverse}
use Rattle.board_prelude.proofs.{All-nil, All-head, All-tail, All-push, Entry, space, line_feed, line_text, lines_text}
use Rattle.board_prelude.proofs.{log_text, lt-ltb, Event, event_text, value_bytes, reply_text}
use Rattle.board_prelude.specs.{Statement}
use Rattle.std.proofs.Common.{ℕ, ◌≡◌, ◌+◌, Option, Some, None, List, [], ◌∷◌, ◌++◌, length, reverse, All, refl}
use Rattle.std.proofs.Common.{flat_map, sym, ap, ◌∙◌, inl, inr, append_assoc, append-nil, arith, decimal, ◌<◌, codes}
use Rattle.std.proofs.lemmas.Fmt.{decimal_injective}
use Rattle.script_spec.specs.Lines.{text_of_lines, IsOneLine}
use Rattle.script_spec.specs.ScriptText.{IsVersion}
use Rattle.script_spec.specs.WellFormed.{IsWellFormed}
use Rattle.script_spec.specs.Laws.{LineSaysEntry, LogSaysAll}
use Rattle.script_spec.specs.Entries.{but_last, Pieces, parse_pieces, parse_actor}
use Rattle.script_spec.specs.Grammar.{Item, Ask, HasForm, item_text}
use Rattle.script_spec.specs.Fields.{fields_of}
use Rattle.script_spec.specs.Numbers.{◌>>=◌}
use Rattle.script_spec.specs.Items.{ask, parse_line}
use Rattle.script_spec.specs.Replies.{parse_spaced_reply}
use Rattle.script_spec.proofs.Digits.{front, front-field, lacks-append, lacks-decimal, cut_field}
use Rattle.script_spec.proofs.Chains.{some_is, same}
use Rattle.script_spec.proofs.CheckLaws.{one_line, compared}
use Rattle.script_spec.proofs.PlainText.{lacks-word, lacks-plain, decimal_word}
use Rattle.script_spec.proofs.Words.{event_plain, reply_plain}
use Rattle.script_spec.proofs.NumberTexts.{decimal_back}
use Rattle.script_spec.proofs.ItemBack.{line_back}
use Rattle.script_spec.proofs.ReplyBack.{reply_read}

pub seven_parts : (a b c d e f g : List ℕ) → a ++ b ++ c ++ d ++ e ++ f ++ g ≡ a ++ (b ++ (c ++ (d ++ (e ++ (f ++ g)))))
seven_parts a b c d e f g = simp append_assoc

-- `S STATEMENT`
abbrev pub asked_text : (seq : ℕ) → Event → List ℕ
asked_text seq event = decimal seq ++ space ∷ event_text event

abbrev pub replied_text : Entry → List ℕ
replied_text entry = space ∷ reply_text (value_bytes entry.event) entry.reply

abbrev pub pieces : Entry → Pieces
pieces entry = record {
  actor = decimal entry.actor;
  asked = asked_text entry.seq entry.event;
  replied = replied_text entry;
}

but_last_push : (xs : List ℕ) (c : ℕ) → but_last (xs ++ c ∷ []) ≡ xs
but_last_push xs c = grind (arith, common_steps)

-- what stands after the point, cut before its `=`
later_parts : (seq event reply : List ℕ)
    → seq ++ (space ∷ event ++ (codes " = " ++ reply)) ≡ (seq ++ space ∷ event ++ space ∷ []) ++ 0x3D ∷ (space ∷ reply)
later_parts seq event reply = simp append_assoc

pub line_pieces : (version n : ℕ) (entry : Entry) → IsWellFormed version entry
    → parse_pieces (line_text n entry) ≡ Some (pieces entry)
unfolding line_text parse_pieces
line_pieces version n entry formed =
    let number = lacks-word space (decimal n) refl (decimal_word n) in
    let event = lacks-plain 0x3D (event_text entry.event) refl (event_plain entry.event) in
    grind (arith, nat_tests, seven_parts, cut_field, lacks-decimal, later_parts, lacks-append, but_last_push)

pub actor_said : (actor : ℕ) → actor < 0x100 → parse_actor (decimal actor) ≡ Some actor
unfolding parse_actor
actor_said actor small = rw (decimal_back actor (omega (arith, small)), lt-ltb actor 0x100 small) refl

pub asked_said : (version : ℕ) (entry : Entry) → IsWellFormed version entry
    → HasForm version (asked_text entry.seq entry.event) (ask entry.seq entry.event)
unfolding item_text
asked_said version entry formed = grind (arith, nat_tests, same)

-- ---- an entry is read from its line

abbrev asked_in : Item → Option Statement
asked_in (Ask statement) = Some statement
asked_in _ = None

unfoldable pub entry_in : (version : ℕ) → List ℕ → Option Entry
entry_in version line = do
  pieces ← parse_pieces line
  actor ← parse_actor pieces.actor
  item ← parse_line version pieces.asked
  asked ← asked_in item
  reply ← parse_spaced_reply asked.event (fields_of pieces.replied)
  Some (record { actor = actor; seq = asked.actor; event = asked.event; reply = reply })

pub entry_read : (version n : ℕ) (entry : Entry) → IsWellFormed version entry
    → entry_in version (line_text n entry) ≡ Some entry
unfolding entry_in
entry_read version n entry formed =
    let item = line_back version _ (ask entry.seq entry.event) (asked_said version entry formed) in
    let reply = reply_read entry.event entry.reply formed.shape in
    rw (line_pieces version n entry formed, actor_said entry.actor formed.actor, item, reply) refl

-- ---- lines

-- the number is the first field
number_read : (n : ℕ) (entry : Entry) → front space (line_text n entry) ≡ decimal n
unfolding line_text
number_read n entry = simp (seven_parts, front-field, lacks-word, decimal_word)

pub line_says_entry : LineSaysEntry
line_says_entry version n m entry other formed others same = (
  λ first second.
      decimal_injective n m first second
      (sym (number_read n entry) ∙ ap (front space) same ∙ number_read m other),
  some_is _ _ (sym (entry_read _ n _ formed) ∙ ap (entry_in version) same ∙ entry_read _ m _ others),
)

-- ---- whole logs

-- the lines of a history, the oldest first
abbrev pub log_lines : List Entry → List (List ℕ)
log_lines [] = []
log_lines (entry ∷ before) = log_lines before ++ line_text (length before + 1) entry ∷ []

pub lines_joined : (history : List Entry) → lines_text history ≡ text_of_lines (log_lines history)
unfolding lines_text
lines_joined [] = refl
lines_joined (entry ∷ before) = simp (append_assoc, append-nil, flat_map-append, lines_joined before)

-- a line of the log is one line
pub line_whole : (n : ℕ) (entry : Entry) → IsOneLine (line_text n entry)
unfolding line_text
line_whole n entry =
    grind (arith, nat_tests, lacks-word, decimal_word, one_line, lacks-append, lacks-plain, event_plain, reply_plain)

pub lines_whole : (history : List Entry) → All IsOneLine (log_lines history)
lines_whole [] = All-nil IsOneLine
lines_whole (entry ∷ before) = grind (arith, nat_tests, common_steps, All-push, line_whole, lines_whole before)

pub nothing_more : (this after : List ℕ) → [] ≡ this ++ line_feed ∷ after → ⊥
nothing_more [] after e = cc
nothing_more (c ∷ cs) after e = cc

-- whole lines say where they are cut
same_lines : (lines others : List (List ℕ)) → All IsOneLine lines → All IsOneLine others →
    text_of_lines lines ≡ text_of_lines others → lines ≡ others
same_lines lines others each all same = elim (compared lines [] others [] each all (rw (append-nil, append-nil) same)) [
  | inl is ↦ is
  | inr (inl on) ↦ absurd (nothing_more on.this _ on.whole)
  | inr (inr on) ↦ absurd (nothing_more on.this _ on.whole)
]

-- what the lines say, where they say something
abbrev listed : Option Entry → List Entry
listed None = []
listed (Some entry) = entry ∷ []

history_read : (version : ℕ) (history : List Entry) → All (IsWellFormed version) history →
    flat_map (λ line. listed (entry_in version line)) (log_lines history) ≡ reverse history
history_read version [] each = refl
history_read version (entry ∷ before) each =
    let this = entry_read version (length before + 1) entry (All-head (IsWellFormed version) entry before each) in
    let rest = history_read version before (All-tail (IsWellFormed version) entry before each) in
    simp (flat_map-append, reverse-append (entry ∷ []) before, rest, this)

same_history : (version : ℕ) (left right : List Entry) → All (IsWellFormed version) left →
    All (IsWellFormed version) right → lines_text left ≡ lines_text right → left ≡ right
same_history version left right one two same =
    let lines = same_lines (log_lines left) (log_lines right) (lines_whole left) (lines_whole right)
    (sym (lines_joined left) ∙ same ∙ lines_joined right) in
    cc (history_read version left one, history_read version right two, reverse-reverse left, reverse-reverse right)

versions_differ : (left right : List Entry) → log_text 1 left ≡ log_text 2 right → ⊥
unfolding digits
versions_differ left right same = grind (arith, nat_tests)

same_version : (version other : ℕ) (left right : List Entry) → IsVersion version → IsVersion other →
    log_text version left ≡ log_text other right → version ≡ other
same_version version other left right one two same =
    grind (arith, nat_tests, versions_differ left right, versions_differ right left)

pub log_says_all : LogSaysAll
unfolding digits
log_says_all bytes version other left right one two =
    let texts = sym one.text ∙ two.text in
    let same = same_version version other left right one.known two.known texts in
    let whole = rw same at texts in
    (same, same_history other left right (rw same at one.each) two.each (grind (arith, nat_tests, two.known)))
