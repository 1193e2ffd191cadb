-- What a text says is in range.
use Rattle.board_prelude.proofs.{nat_tests, common_steps, option_map, find, list_any, IsPermutation, false≢true}
use Rattle.board_prelude.proofs.{or_parts, or_right, and_parts, All-nil, All-cons, All-head, All-tail, All-append}
use Rattle.board_prelude.proofs.{sum_by-cons, sum_by-append, All-permutation, Setup, FittedCard, IsCard, Rises}
use Rattle.board_prelude.proofs.{memory_size, memory_of_cards, IsScripted, card_at}
use Rattle.board_prelude.specs.{Statement}
use Rattle.std.proofs.Common.{ℕ, ◌≡◌, ◌+◌, ◌*◌, ◌<◌, ◌≤◌, Bool, true, false, not, cond, Option, Some, None, List, []}
use Rattle.std.proofs.Common.{◌∷◌, ◌++◌, length, map, reverse, All, filter, flat_map, refl, sym, ◌∙◌, arith, is_some}
use Rattle.std.proofs.Common.{◌==◌, sum_by}
use Rattle.std.proofs.lemmas.List.Elements.{All-filter}
use Rattle.std.proofs.lemmas.List.Sums.{length-filter}
use Rattle.std.proofs.lemmas.List.Sorted.{IsPermutation-reverse, sum_by-IsPermutation, list_any-IsPermutation}
use Rattle.board_base.proofs.CalendarLemmas.{is_within_parts}
use Rattle.script_spec.specs.Grammar.{Item, SetCpus, SetMemory, SetRom, SetDisk, FitCard, BeginPhase, Ask, IsForm}
use Rattle.script_spec.specs.Reasons.{is_phase, is_statement, is_setup, is_cpus, is_memory, is_rom, is_disk}
use Rattle.script_spec.specs.Reasons.{is_cpus_above, has_card, cards_of, pulses_of, is_card_there}
use Rattle.script_spec.specs.ScriptText.{Script, IsVersion, phase_items, IsSaidBy}
use Rattle.script_spec.specs.ScriptRange.{IsDiskName, statements_in, IsInRangeScript}
use Rattle.script_spec.specs.Laws.{ScriptsAreInRange}
use Rattle.script_spec.proofs.GoodItems.{NoReason, AreGood, read_good, found_good, IsWithinLimits, within_limits}

-- the cards of the items before are those of the setup
abbrev pub HasCards : List Item → Setup → Type 0
HasCards before setup = (dev : ℕ) → has_card before dev ≡ true → is_some (card_at setup dev) ≡ true

-- ---- processors

any_cpus : (actor : ℕ) (items : List Item) → list_any (is_cpus_above actor) items ≡ true → list_any is_cpus items ≡ true
any_cpus actor [] any = any
any_cpus actor (SetCpus count ∷ before) any = refl
any_cpus actor (item ∷ before) any = any_cpus actor before any

-- one line says how many processors there are
cpus_above : (version actor cpus : ℕ) (items : List Item) → AreGood version items →
    find is_cpus items ≡ Some (SetCpus cpus) → list_any (is_cpus_above actor) items ≡ true → actor < cpus
cpus_above version actor cpus [] good found any = absurd (false≢true any)
cpus_above version actor cpus (item ∷ before) good found any =
    grind (arith, nat_tests, any_cpus actor before, good.1.first, cpus_above version actor cpus before good.2)

-- ---- statements

abbrev pub OnAsk : (Statement → Type 0) → Item → Type 0
OnAsk P (Ask statement) = P statement
OnAsk P _ = Unit {0}

module _ (version cpus : ℕ) (setup : Setup) where
  -- the processors and the cards that items name are there
  abbrev AreThere : List Item → Type 0
  AreThere items =
      ((actor : ℕ) → list_any (is_cpus_above actor) items ≡ true → actor < cpus) × HasCards items setup

  scripted : (before : List Item) (item : Item) → AreThere before → IsForm version item → NoReason before item →
      OnAsk (IsScripted setup version cpus) item
  scripted before (Ask statement) are form none =
      let there = and_parts (list_any (is_cpus_above statement.actor) before) (is_card_there before statement.event)
      none.there in
      record {
        actor = are.0 statement.actor there.0;
        event = grind (arith, nat_tests, form.1, none.range, none.aligned, there.1, are.1);
        sector = grind (arith, nat_tests, none.range);
        said = grind (arith, nat_tests, form.1);
      }
  scripted before _ are form none = tt

  all_scripted : (items : List Item) → AreThere items → AreGood version items →
      All (OnAsk (IsScripted setup version cpus)) items
  all_scripted [] are good = All-nil (OnAsk (IsScripted setup version cpus))
  all_scripted (item ∷ before) are good =
      let earlier : AreThere before = (
        λ actor any. are.0 actor (or_right (is_cpus_above actor item) (list_any (is_cpus_above actor) before) any),
        λ dev has. are.1 dev (grind (arith, nat_tests)),
      ) in
      All-cons (OnAsk (IsScripted setup version cpus)) item before (scripted before item earlier good.0 good.1)
      (all_scripted before earlier good.2)

-- what holds of each statement of the items holds of each statement of the phases
phase_asks : (P : Statement → Type 0) (phase : List Statement) (later : List Item) → All (OnAsk P)
    (map Ask phase ++ later) → All P phase × All (OnAsk P) later
phase_asks P [] later all = (All-nil P, all)
phase_asks P (statement ∷ phase) later all =
    let rest = phase_asks P phase later (All-tail (OnAsk P) (Ask statement) (map Ask phase ++ later) all) in
    (All-cons P statement phase (All-head (OnAsk P) (Ask statement) (map Ask phase ++ later) all) rest.0, rest.1)

all_asks : (P : Statement → Type 0) (phases : List (List Statement)) → All (OnAsk P) (phase_items phases) →
    All P (flat_map (λ phase. phase) phases)
all_asks P [] all = All-nil P
all_asks P (phase ∷ later) all =
    let both = phase_asks P _ _ (All-tail (OnAsk P) BeginPhase (map Ask phase ++ phase_items later) all) in
    All-append P phase (flat_map (λ phase. phase) later) both.0 (all_asks P later both.1)

-- ---- cards

pub none_any : {X : Type 0} (p : X → Bool) (xs : List X) → list_any p xs ≡ false → All (λ x. p x ≡ false) xs
none_any p xs none = grind (arith, nat_tests, common_steps, All-nil, or_parts, All-cons)

pub any_found : {X : Type 0} (p : X → Bool) (xs : List X) → list_any p xs ≡ is_some (find p xs)
any_found p [] = refl
any_found p (x ∷ xs) = grind (arith, nat_tests, any_found p xs)

has_cards : (items : List Item) (cards : List FittedCard) (setup : Setup) → IsPermutation (cards_of items) cards →
    setup.cards ≡ cards → HasCards items setup
has_cards items cards setup same is dev has =
    rw is (sym (any_found (λ card. card.dev == dev) cards)
    ∙ sym (list_any-IsPermutation (λ card. card.dev == dev) (cards_of items) cards same) ∙ has)

all_cards : (version : ℕ) (items : List Item) → AreGood version items → All IsCard (cards_of items)
all_cards version [] good = grind (arith, nat_tests, common_steps)
all_cards version (FitCard card ∷ before) good = grind (arith, nat_tests, common_steps, all_cards version before good.2)
all_cards version (_ ∷ before) good = grind (arith, nat_tests, common_steps, all_cards version before good.2)

-- devices that rise from 2 to 9 are few
few_after : (first : FittedCard) (later : List FittedCard) → Rises (first ∷ later) → All IsCard (first ∷ later) →
    first.dev + length later ≤ 9
few_after first [] rises each = omega (arith, (All-head IsCard first [] each).last)
few_after first (next ∷ later) rises each =
    let up = All-head (λ card. first.dev < card.dev) next later rises.0 in
    omega (arith, few_after next later rises.1 (All-tail IsCard first (next ∷ later) each))

few_cards : (cards : List FittedCard) → Rises cards → All IsCard cards → length cards ≤ 8
few_cards [] rises each = omega arith
few_cards (first ∷ later) rises each =
    omega (arith, few_after first later rises each, (All-head IsCard first later each).first)

sum_of_cards : (cards : List FittedCard) → memory_of_cards cards ≡ sum_by (λ card. sum_by memory_size card.bases) cards
sum_of_cards [] = refl
sum_of_cards (card ∷ later) = simp (sum_by-append, sum_by-cons, sum_of_cards later)

same_memory : (cards others : List FittedCard) → IsPermutation cards others →
    memory_of_cards others ≡ memory_of_cards cards
same_memory cards others same = grind (arith, nat_tests, sum_of_cards, sum_by-IsPermutation)

-- ---- limits

good_limits : (version : ℕ) (items : List Item) → AreGood version items → IsWithinLimits items
good_limits version [] good = within_limits [] refl
good_limits version (item ∷ before) good = within_limits (item ∷ before) good.1.limits

-- ---- sums over items and over phases

sum_kept : (f : Item → ℕ) (items : List Item) → ((item : Item) → is_setup item ≡ true → f item ≡ 0) →
    sum_by f (filter (λ item. not (is_setup item)) items) ≡ sum_by f items
sum_kept f [] none = refl
sum_kept f (item ∷ before) none = grind (arith, nat_tests, sum_by-cons, sum_kept f before none)

sum_phases : (f : Item → ℕ) (phases : List (List Statement)) → sum_by f (phase_items phases)
    ≡ length phases * f BeginPhase + sum_by (λ statement. f (Ask statement)) (flat_map (λ phase. phase) phases)
sum_phases f [] = grind (arith, nat_tests, common_steps, sum_by-cons, sum_by-append)
sum_phases f (phase ∷ later) = grind (arith, nat_tests, common_steps, sum_by-cons, sum_by-append, sum_phases f later)

-- a sum over all items is one over the phases, where setup lines count nothing
sum_items : (f : Item → ℕ) (items : List Item) (phases : List (List Statement)) →
    ((item : Item) → is_setup item ≡ true → f item ≡ 0) →
    reverse (filter (λ item. not (is_setup item)) items) ≡ phase_items phases → sum_by f items
    ≡ length phases * f BeginPhase + sum_by (λ statement. f (Ask statement)) (flat_map (λ phase. phase) phases)
sum_items f items phases none is =
    let kept = filter (λ item. not (is_setup item)) items in
    let turned = sum_by-IsPermutation f kept (reverse kept) (IsPermutation-reverse kept) in
    grind (arith, sum_kept f items none, sum_phases f phases)

sum_of_ones : (statements : List Statement) → sum_by (λ statement. 1) statements ≡ length statements
sum_of_ones [] = refl
sum_of_ones (x ∷ xs) = omega (arith, sum_by-cons (λ statement. 1) x xs, sum_of_ones xs)

-- ---- the whole

disk_name : (version : ℕ) (items : List Item) (disk : Option (List ℕ)) → AreGood version items →
    find is_disk items ≡ option_map SetDisk disk → IsDiskName disk
disk_name version items None good found = tt
disk_name version items (Some name) good found = (found_good version items is_disk (SetDisk name) good found).0

in_range : (items : List Item) (script : Script) → AreGood script.version items → IsVersion script.version →
    IsSaidBy script items → IsInRangeScript script
in_range items script good version said =
    let found = found_good script.version items in
    let cpus = found is_cpus (SetCpus script.cpus) good said.cpus in
    let count = is_within_parts _ _ script.cpus cpus.1 in
    let memory = found is_memory (SetMemory script.mib) good said.memory in
    let mib = is_within_parts _ _ script.mib memory.1 in
    let limits = good_limits script.version items good in
    let cards = All-permutation IsCard (cards_of items) script.cards said.cards (all_cards script.version items good) in
    let kept : List Item = filter (λ item. not (is_setup item)) items in
    let phases : List (List Statement) = script.phases in
    let sum = λ (f : Item → ℕ) (none : (item : Item) → is_setup item ≡ true → f item ≡ 0).
    sum_items f items phases none said.phases in
    let statements = sum (λ item. cond {A = ℕ} (is_statement item) 1 0) (λ item setup. grind (arith, nat_tests)) in
    let phase_count = sum (λ item. cond {A = ℕ} (is_phase item) 1 0) (λ item setup. grind (arith, nat_tests)) in
    let pulses = sum pulses_of (λ item setup. grind (arith, nat_tests)) in
    record {
      version = version;
      some_cpus = count.0;
      most_cpus = count.1;
      some_memory = mib.0;
      most_memory = omega (arith, mib.1);
      rom = (found is_rom (SetRom script.rom) good said.rom).0;
      disk = disk_name script.version items script.disk good said.disk;
      cards = record {
        count = omega (arith, few_cards script.cards said.rises cards);
        each = cards;
        rises = said.rises;
      };
      windows = omega (arith, same_memory (cards_of items) script.cards said.cards, limits.memory);
      each = λ setup is.
          let P : Statement → Type 0 = IsScripted setup script.version script.cpus in
          let all = all_scripted script.version script.cpus setup items (
            λ actor. cpus_above script.version actor script.cpus items good said.cpus,
            has_cards items script.cards setup said.cards is,
          ) good in
          let turned : All (OnAsk P) (reverse kept) =
          All-permutation (OnAsk P) kept (reverse kept) (IsPermutation-reverse kept)
          (All-filter (λ item. not (is_setup item)) (OnAsk P) items all) in
          all_asks P phases (rw said.phases at turned);
      statements = omega (arith, length-filter is_statement items, sum_of_ones (statements_in script));
      phases = omega (arith, length-filter is_phase items);
      pulses = omega arith;
    }

pub scripts_are_in_range : ScriptsAreInRange
scripts_are_in_range bytes script text = grind (arith, nat_tests, in_range, read_good)
