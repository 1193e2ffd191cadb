-- Each text is a script's, or bad.
use Rattle.board_prelude.proofs.{nat_tests, option_map, find, list_any, IsPermutation, true≢false, false≢true}
use Rattle.board_prelude.proofs.{cases_Bool, ltb-true, ltb-false, eqb-false, flat_map-append, map-append}
use Rattle.board_prelude.proofs.{reverse-append, All-nil, All-cons, All-head, All-tail, All-permutation, FittedCard}
use Rattle.board_prelude.proofs.{Rises, position_or_len}
use Rattle.board_prelude.specs.{Statement}
use Rattle.std.proofs.Common.{ℕ, ◌≡◌, ◌≢◌, ◌<◌, ◌≤◌, ◌⊎◌, Bool, true, false, not, Option, Some, None, List, [], ◌∷◌}
use Rattle.std.proofs.Common.{◌++◌, map, reverse, get_or, All, filter, refl, sym, ◌∙◌, inl, inr, append_assoc}
use Rattle.std.proofs.Common.{append-nil, arith, ◌==◌, insert, nat_lt, one-add, if◌then◌else◌}
use Rattle.std.proofs.lemmas.List.Sorted.{IsPermutation-refl, IsPermutation-trans, IsPermutation-cons}
use Rattle.std.proofs.lemmas.List.Sorted.{IsPermutation-insert}
use Rattle.script_spec.specs.Lines.{lines_of}
use Rattle.script_spec.specs.Grammar.{Item, SetCpus, SetMemory, SetRom, SetDisk, FitCard, BeginPhase, Ask, AskLevel}
use Rattle.script_spec.specs.Reasons.{is_phase, is_setup, is_cpus, is_memory, is_rom, is_disk, cards_of, has_card}
use Rattle.script_spec.specs.Reasons.{lacks_setup}
use Rattle.script_spec.specs.ScriptText.{Script, phase_items, IsSaidBy, IsScriptText}
use Rattle.script_spec.specs.Laws.{SomeReading}
use Rattle.script_spec.proofs.GoodItems.{NoReason, AreGood, read_good}
use Rattle.script_spec.proofs.RangeLaws.{none_any}
use Rattle.script_spec.proofs.ScriptLaws.{count_of, name_of}
use Rattle.script_spec.proofs.Decision.{AreGoodLines, judged_is}

-- ---- the setup is whole

-- by the first phase the setup is whole
whole_setup : (version : ℕ) (items : List Item) → AreGood version items → lacks_setup items ≡ false →
    (list_any is_cpus items ≡ true) × (list_any is_memory items ≡ true) × (list_any is_rom items ≡ true)
whole_setup version [] good whole = absurd (true≢false whole)
whole_setup version (item ∷ before) good whole =
    grind (arith, nat_tests, good.1.begun, whole_setup version before good.2)

-- what is found of a kind
found : {X : Type 0} (test : Item → Bool) (make : X → Item) (of : Option Item → X) (items : List Item)
    → ((item : Item) → test item ≡ true → item ≡ make (of (Some item))) → list_any test items ≡ true
    → find test items ≡ Some (make (of (find test items)))
found test make of [] is any = absurd (false≢true any)
found test make of (item ∷ before) is any = grind (arith, nat_tests, found test make of before is)

found_disk : (items : List Item) → (disk : Option (List ℕ)) × (find is_disk items ≡ option_map SetDisk disk)
found_disk [] = (None, refl)
found_disk (SetDisk name ∷ before) = (Some name, refl)
found_disk (item ∷ before) = found_disk before

-- ---- the cards in order

-- a card before the first of a higher device
abbrev pub put : FittedCard → List FittedCard → List FittedCard
put card cards = insert cards (position_or_len (λ other. nat_lt card.dev other.dev) cards) card

put_cons : (card first : FittedCard) (later : List FittedCard) → put card (first ∷ later)
    ≡ (if nat_lt card.dev first.dev then card ∷ first ∷ later else first ∷ put card later)
put_cons card first later = grind (arith, nat_tests, one-add)

all_put : (P : FittedCard → Type 0) (card : FittedCard) (cards : List FittedCard) → P card → All P cards →
    All P (put card cards)
all_put P card cards one all =
    All-permutation P (card ∷ cards) (put card cards) (IsPermutation-insert cards _ card)
    (All-cons P card cards one all)

put_rises : (card : FittedCard) (cards : List FittedCard) → Rises cards → All (λ other. other.dev ≢ card.dev) cards →
    Rises (put card cards)
put_rises card [] rises apart = (All-nil (λ other. card.dev < other.dev), tt)
put_rises card (first ∷ later) rises apart = elim (cases_Bool (nat_lt card.dev first.dev)) [
  | inl below ↦
      let less : card.dev < first.dev = ltb-true card.dev first.dev below in
      rw (put_cons, below) (
        All-cons (λ other. card.dev < other.dev) first later less (λ k d inside.
            let up : first.dev < (get_or later k d).dev = rises.0 k d inside in omega arith),
        rises,
      )
  | inr above ↦
      let other : first.dev ≢ card.dev = All-head (λ c. c.dev ≢ card.dev) first later apart in
      let least : first.dev ≤ card.dev = ltb-false card.dev first.dev above in
      rw (put_cons, above) (
        all_put (λ c. first.dev < c.dev) card later (omega arith) rises.0,
        put_rises card later rises.1 (All-tail (λ c. c.dev ≢ card.dev) first later apart),
      )
]

module _ (items : List Item) (card : FittedCard) (cards : List FittedCard) (same : IsPermutation (cards_of items) cards)
  where
    pub card_put : IsPermutation (card ∷ cards_of items) (put card cards)
    card_put =
        IsPermutation-trans (card ∷ cards_of items) (card ∷ cards) (put card cards)
        (IsPermutation-cons card (cards_of items) cards same) (IsPermutation-insert cards _ card)

    -- no card is of the device of a new one
    pub cards_rise : Rises cards → has_card items card.dev ≡ false → Rises (put card cards)
    cards_rise rises none =
        let apart : All (λ other. (other.dev == card.dev) ≡ false) cards =
        All-permutation (λ other. (other.dev == card.dev) ≡ false) (cards_of items) cards same
        (none_any (λ other. other.dev == card.dev) (cards_of items) none) in
        put_rises card cards rises (λ k d inside. eqb-false (get_or cards k d).dev card.dev (apart k d inside))

record InOrder (cards : List FittedCard) : Type 0 where
  ordered : List FittedCard
  same : IsPermutation cards ordered
  rises : Rises ordered

in_order : (version : ℕ) (items : List Item) → AreGood version items → InOrder (cards_of items)
in_order version [] good = record { ordered = []; same = IsPermutation-refl []; rises = tt }
in_order version (FitCard card ∷ before) good =
    let rest : InOrder (cards_of before) = in_order version before good.2 in
    record {
      ordered = put card rest.ordered;
      same = card_put before card rest.ordered rest.same;
      rises = cards_rise before card rest.ordered rest.same rest.rises good.1.first;
    }
in_order version (_ ∷ before) good = in_order version before good.2

-- ---- the phases

abbrev pub run_of : List Item → List Item
run_of items = reverse (filter (λ item. not (is_setup item)) items)

record LastPhase (items : List Item) : Type 0 where
  front : List (List Statement)
  last : List Statement
  is : run_of items ≡ phase_items front ++ (BeginPhase ∷ map Ask last)

-- no phase has begun, or there is a last one
abbrev Run : List Item → Type 0
Run items = ((list_any is_phase items ≡ false) × (run_of items ≡ [])) ⊎ LastPhase items

pub reverse_more : (item : Item) (items : List Item) → reverse (item ∷ items) ≡ reverse items ++ item ∷ []
reverse_more item items = reverse-append (item ∷ []) items

-- the phases with one more
pub phases_more : (front : List (List Statement)) (last : List Statement) →
    phase_items (front ++ last ∷ []) ≡ phase_items front ++ (BeginPhase ∷ map Ask last)
phases_more front last = simp (flat_map-append, append-nil)

phases_there : (items : List Item) → Run items → (phases : List (List Statement)) × (run_of items ≡ phase_items phases)
phases_there items (inl none) = ([], none.1)
phases_there items (inr some) = (some.front ++ some.last ∷ [], some.is ∙ sym (phases_more some.front some.last))

begin_phase : (before : List Item) → Run before → Run (BeginPhase ∷ before)
begin_phase before old = grind (arith, nat_tests, phases_there, reverse_more)

ask_more : (before : List Item) (statement : Statement) → NoReason before (Ask statement) → Run before →
    Run (Ask statement ∷ before)
ask_more before statement none (inl no_phase) = grind (arith, nat_tests)
ask_more before statement none (inr old) =
    let more = reverse_more (Ask statement) (filter (λ item. not (is_setup item)) before) in
    let join = append_assoc (phase_items old.front) (BeginPhase ∷ map Ask old.last) (Ask statement ∷ []) in
    inr (record { front = old.front; last = old.last ++ statement ∷ []; is = rw (more, old.is, join, map-append) refl })

run : (version : ℕ) (items : List Item) → AreGood version items → Run items
run version [] good = inl (refl, refl)
run version (BeginPhase ∷ before) good = begin_phase before (run version before good.2)
run version (Ask statement ∷ before) good = ask_more before statement good.1 (run version before good.2)
run version (AskLevel actor one number level ∷ before) good = absurd (false≢true good.1.range)
run version (item ∷ before) good = grind (arith, nat_tests, run version before good.2)

-- ---- the whole

said_by : (version : ℕ) (items : List Item) → AreGood version items → lacks_setup items ≡ false →
    (script : Script) × (script.version ≡ version) × IsSaidBy script items
said_by version items good whole =
    let parts = whole_setup version items good whole in
    let disk = found_disk items in
    let cards = in_order version items good in
    let phases = phases_there items (run version items good) in (
      record {
        version = version;
        cpus = count_of (find is_cpus items);
        mib = count_of (find is_memory items);
        rom = name_of (find is_rom items);
        disk = disk.0;
        cards = cards.ordered;
        phases = phases.0;
      },
      refl,
      record {
        cpus = found is_cpus SetCpus count_of items (λ item is. grind (arith, nat_tests)) parts.0;
        memory = found is_memory SetMemory count_of items (λ item is. grind (arith, nat_tests)) parts.1;
        rom = found is_rom SetRom name_of items (λ item is. grind (arith, nat_tests)) parts.2;
        disk = disk.1;
        cards = cards.same;
        rises = cards.rises;
        phases = phases.1;
      },
    )

pub text_said : (bytes : List ℕ) (version : ℕ) (items : List Item) → AreGoodLines (lines_of bytes) version items →
    (script : Script) × IsScriptText bytes script
text_said bytes version items good = grind (arith, nat_tests, said_by, read_good)

pub some_reading : SomeReading
some_reading bytes = grind (arith, nat_tests, text_said, judged_is (lines_of bytes))
