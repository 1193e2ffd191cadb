-- Statements that are read in turn after a setup and a phase: each of a script that is made can be asked, wherever it
-- stands.
use Rattle.board_prelude.proofs.{nat_tests, common_steps, list_any, AllZip, list_all, and_from, and_parts}
use Rattle.board_prelude.proofs.{reverse-append, All-head, All-tail, sum_by-cons, memory_of_cards, line_feed, digits}
use Rattle.board_prelude.proofs.{ltb-true, not-true, All-nil, All-cons, All-append, Read, One, Moment, bytes_of}
use Rattle.board_prelude.proofs.{weekday_of, days_since_1980, days_of_years, days_of_months, Event, Memory, Port, Ack}
use Rattle.board_prelude.proofs.{Pulses, Time, is_write, event_text}
use Rattle.board_prelude.specs.{Statement}
use Rattle.std.proofs.Common.{ℕ, ◌≡◌, ◌+◌, ◌*◌, ◌<◌, ◌≤◌, true, false, None, List, [], ◌∷◌, ◌++◌, length, map, filter}
use Rattle.std.proofs.Common.{sum_by, All, refl, sym, ◌∙◌, inl, inr, append_assoc, append-nil, arith, zero, suc, ◌%◌}
use Rattle.std.proofs.Common.{◌^◌, Bool, ◌&&◌, not, ltb, eqb}
use Rattle.script_spec.specs.Lines.{lines_of, text_of_lines}
use Rattle.script_spec.specs.Grammar.{Item, Ask, StandsFor, IsEventForm, item_text}
use Rattle.script_spec.specs.Reasons.{is_phase, is_statement, cards_of, is_event_in_range, is_event_placed}
use Rattle.script_spec.specs.Reasons.{is_cpus_above, is_card_there, pulses_of, pulses_of_event, passes_limits}
use Rattle.script_spec.specs.Reasons.{least_reason}
use Rattle.script_spec.specs.ScriptText.{most_bytes, is_skipped, AreRead}
use Rattle.script_spec.proofs.Digits.{lacks, lacks-later, lacks-append}
use Rattle.script_spec.proofs.PlainText.{lacks-word, lacks-plain, decimal_word}
use Rattle.script_spec.proofs.Words.{event_plain}
use Rattle.script_spec.proofs.ReadingExists.{run_of}
use Rattle.board_base.specs.declared.access.Width.TheVariants.{Four}
use Rattle.board_spec.specs.declared.event.Event.TheVariants.{Look as LookAt}
use Rattle.make_script.specs.MakeText.{dram_addr, card_addr}
use Rattle.make_script.specs.MadeScript.{asks, reads, writes, outs, opening_events, round_statements}
use Rattle.make_script.specs.MadeScript.{statements_of_rounds, made_statements}

-- ---- lines

line-cut : (line rest : List ℕ) → lacks line_feed line ≡ true
    → lines_of (line ++ line_feed ∷ rest) ≡ line ∷ lines_of rest
unfolding lines_of
line-cut [] rest lack = refl
line-cut (c ∷ line) rest lack = grind (arith, nat_tests, line-cut line rest (lacks-later line_feed c line lack))

-- the lines of a text are those that it was made of
pub lines-back : (lines : List (List ℕ)) → list_all (λ line. lacks line_feed line) lines ≡ true
    → lines_of (text_of_lines lines) ≡ lines
unfolding lines_of
lines-back [] lack = refl
lines-back (line ∷ later) lack = grind (arith, nat_tests, append_assoc, line-cut, and_parts, lines-back later)

-- ---- a statement

-- its line
abbrev pub said : Statement → List ℕ
said statement = item_text (Ask statement)

said-line : (statement : Statement) → lacks line_feed (said statement) ≡ true
unfolding item_text
said-line statement = simp (lacks-append, lacks-word, decimal_word, lacks-plain, event_plain)

pub said-lines : (statements : List Statement) → list_all (λ line. lacks line_feed line) (map said statements) ≡ true
said-lines [] = refl
said-lines (statement ∷ later) = simp (and_from, said-line, said-lines later)

-- one of two processors can ask it, wherever it stands
pub record IsFine (statement : Statement) : Type 0 where
  pub actor : statement.actor < 2
  pub short : length (said statement) ≤ most_bytes
  pub read : is_skipped (said statement) ≡ false
  pub form : IsEventForm 1 statement.event
  pub range : is_event_in_range statement.event ≡ true
  pub placed : is_event_placed statement.event ≡ true
  pub card : (before : List Item) → is_card_there before statement.event ≡ true
  pub few : pulses_of_event statement.event ≤ 4

-- a text spells itself
same : (text : List ℕ) → AllZip StandsFor text text
same [] = tt
same (c ∷ text) = (inl refl, same text)

-- ---- after a setup

-- two processors are set up, a phase has begun, and so many statements are asked in it
pub record AreAsked (count : ℕ) (before : List Item) : Type 0 where
  pub begun : list_any is_phase before ≡ true
  pub cpus : (actor : ℕ) → actor < 2 → list_any (is_cpus_above actor) before ≡ true
  pub statements : length (filter is_statement before) ≡ count
  pub phases : length (filter is_phase before) ≤ 1_000
  pub pulses : sum_by pulses_of before ≤ 4 * count
  pub memory : memory_of_cards (cards_of before) ≤ 0x400_0000

asked-more : (count : ℕ) (before : List Item) (statement : Statement) → AreAsked count before → IsFine statement
    → AreAsked (count + 1) (Ask statement ∷ before)
asked-more count before statement has fine = grind (arith, nat_tests, common_steps, sum_by-cons)

within-limits : (count : ℕ) (items : List Item) → AreAsked count items → count ≤ 250_000 → passes_limits items ≡ false
within-limits count items has few = grind (arith, nat_tests)

no-reason : (count : ℕ) (before : List Item) (statement : Statement) → AreAsked count before → IsFine statement
    → count + 1 ≤ 250_000 → least_reason before (Ask statement) ≡ None
unfolding least_reason
no-reason count before statement has fine few =
    let more = within-limits (count + 1) (Ask statement ∷ before) (asked-more count before statement has fine) few in
    grind (arith, nat_tests, more, has.begun, has.cpus statement.actor fine.actor, fine.card before)

-- ---- all of them

-- the items that stand there once statements are read, the newest first
abbrev pub items_asked : List Statement → List Item → List Item
items_asked [] before = before
items_asked (statement ∷ later) before = items_asked later (Ask statement ∷ before)

pub asks-read : (statements : List Statement) (count : ℕ) (before : List Item) → AreAsked count before
    → All IsFine statements → count + length statements ≤ 250_000
    → AreRead 1 before (map said statements) (items_asked statements before)
asks-read [] count before has fine few = refl
asks-read (statement ∷ later) count before has fine few =
    let first : IsFine statement = All-head IsFine statement later fine in
    inr (
      Ask statement,
      record {
        short = first.short;
        read = first.read;
        has = record { form = (omega (arith, first.actor), first.form); says = same (said statement) };
        none = no-reason count before statement has first (omega (arith, few));
      },
      asks-read later (count + 1) (Ask statement ∷ before) (asked-more count before statement has first)
          (All-tail IsFine statement later fine) (omega (arith, few)),
    )

-- what does not look at statements is as before
pub asked-keeps : {X : Type 0} (f : List Item → X) (statements : List Statement) (before : List Item)
    → ((statement : Statement) (items : List Item) → f (Ask statement ∷ items) ≡ f items)
    → f (items_asked statements before) ≡ f before
asked-keeps f [] before keeps = refl
asked-keeps f (statement ∷ later) before keeps =
    asked-keeps f later (Ask statement ∷ before) keeps ∙ keeps statement before

pub asked-run : (statements : List Statement) (before : List Item)
    → run_of (items_asked statements before) ≡ run_of before ++ map Ask statements
asked-run [] before = sym (append-nil (run_of before))
asked-run (statement ∷ later) before =
    grind (arith, nat_tests, common_steps, reverse-append, append_assoc, asked-run later (Ask statement ∷ before))

-- ---- a test of a statement

abbrev fits_bytes : (writes : Bool) → (bytes value : ℕ) → Bool
fits_bytes true bytes value = ltb value (256 ^ bytes)
fits_bytes false bytes value = eqb value 0

abbrev fits_moment : Moment → Bool
fits_moment m =
    ltb m.year 10_000 && ltb m.month 100 && ltb m.day 100 && eqb m.weekday (weekday_of m.year m.month m.day)
    && ltb m.hour 100 && ltb m.minute 100 && ltb m.second 100

abbrev fits_event : Event → Bool
fits_event (Memory access) =
    ltb access.addr (2 ^ 32) && fits_bytes (is_write access.kind) (bytes_of access.width) access.value
fits_event (Port access) = ltb access.port (2 ^ 16) && fits_bytes access.write (bytes_of access.width) access.value
fits_event (LookAt kind addr smm) = ltb addr (2 ^ 32)
fits_event Ack = true
fits_event (Pulses count) = ltb count 5
fits_event (Time moment) = fits_moment moment
fits_event _ = false

-- what is seen of a statement without its numbers
abbrev is_line : Statement → Bool
is_line statement =
    ltb statement.actor 2 && ltb (length (said statement)) 121 && not (is_skipped (said statement))
    && is_event_in_range statement.event

abbrev is_fine : Statement → Bool
is_fine statement = is_line statement && is_event_placed statement.event && fits_event statement.event

fine : (statement : Statement) → is_fine statement ≡ true → IsFine statement
fine statement test = grind (arith, nat_tests, and_parts, said, ltb-true, not-true)

all-fine : (statements : List Statement) → list_all is_fine statements ≡ true → All IsFine statements
all-fine [] test = All-nil IsFine
all-fine (statement ∷ later) test = grind (arith, nat_tests, and_parts, All-cons, fine, all-fine later)

-- ---- the opening

opening-fine : All IsFine (map (asks 0) opening_events)
unfolding opening_events digits item_text event_text weekday_of days_since_1980 days_of_years days_of_months
opening-fine = all-fine (map (asks 0) opening_events) refl

-- ---- a round

read-fine : (actor addr : ℕ) → is_line (asks actor (reads Four addr false)) ≡ true → addr % 4 ≡ 0 → addr < 2 ^ 32
    → IsFine (asks actor (reads Four addr false))
read-fine actor addr line aligned small = grind (arith, nat_tests)

write-fine : (actor addr value : ℕ) → is_line (asks actor (writes Four addr value false)) ≡ true → addr % 4 ≡ 0 →
    addr < 2 ^ 32 → value < 2 ^ 32 → IsFine (asks actor (writes Four addr value false))
write-fine actor addr value line aligned small fits = grind (arith, nat_tests)

-- the last eight statements do not depend on the round
abbrev round_end : List Statement
round_end =
    asks 1 (reads One 0xA_0000 false)
    ∷ asks 0 (reads One 0xA_0000 true)
    ∷ asks 1 (writes One 0xF_0000 0x00 false)
    ∷ asks 1 (LookAt Read 0xF_0000 false)
    ∷ asks 0 (Pulses 4)
    ∷ asks 0 Ack
    ∷ asks 0 (outs One 0x20 0x20)
    ∷ asks 1 (reads One 0xFFFE_0000 false)
    ∷ []

round-fine : (i : ℕ) → i < 2 ^ 32 → All IsFine (round_statements i)
unfolding round_statements digits item_text event_text
round-fine i few =
    let dram : ℕ = dram_addr i in
    let card : ℕ = card_addr i in
    let later : List Statement = asks 1 (writes Four card i false) ∷ round_end in
    All-cons IsFine (asks 0 (writes Four dram i false)) (asks 1 (reads Four dram false) ∷ later)
    (write-fine 0 dram i refl (omega arith) (omega arith) few)
    (All-cons IsFine (asks 1 (reads Four dram false)) later (read-fine 1 dram refl (omega arith) (omega arith))
    (All-cons IsFine (asks 1 (writes Four card i false)) round_end
    (write-fine 1 card i refl (omega arith) (omega arith) few) (all-fine round_end refl)))

rounds-fine : (n : ℕ) → n < 2 ^ 32 → All IsFine (statements_of_rounds n)
unfolding statements_of_rounds
rounds-fine zero few = All-nil IsFine
rounds-fine (suc i) few =
    All-append IsFine (statements_of_rounds i) (round_statements i) (rounds-fine i (omega (arith, few)))
    (round-fine i (omega (arith, few)))

pub made-fine : (n : ℕ) → n < 2 ^ 32 → All IsFine (made_statements n)
made-fine n few =
    All-append IsFine (map (asks 0) opening_events) (statements_of_rounds n) opening-fine (rounds-fine n few)
