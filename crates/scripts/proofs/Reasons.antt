-- The least reason for an item, by what is kept of the lines before it.
use Rattle.board_prelude.proofs.{common_steps, nat_tests, option_map, find, list_any, sum_by-append, sum_by-cons, Event}
use Rattle.board_prelude.proofs.{FittedCard, memory_size, memory_of_cards}
use Rattle.std.proofs.Common.{ℕ, ◌≡◌, ◌+◌, ◌<◌, ◌≤◌, Bool, true, false, not, ◌&&◌, ◌||◌, Option, Some, None, Result}
use Rattle.std.proofs.Common.{List, [], ◌∷◌, length, filter, flat_map, sum_by, refl, sym, ap, ◌∙◌, arith, ◌==◌, nat_lt}
use Rattle.std.proofs.Common.{is_some, if◌then◌else◌, IsErr, IsErrAnd}
use Rattle.std.proofs.lemmas.List.Sorted.{list_any-IsPermutation}
use Rattle.script_spec.specs.Grammar.{Item, SetCpus, SetMemory, SetRom, SetDisk, FitCard, BeginPhase}
use Rattle.script_spec.specs.Reasons.{is_phase, is_statement, is_setup, is_cpus, is_memory, is_rom, is_disk, cards_of}
use Rattle.script_spec.specs.Reasons.{has_card, has_setup, lacks_setup, is_misplaced, is_repeated, is_in_range}
use Rattle.script_spec.specs.Reasons.{is_placed, is_there, pulses_of_event, pulses_of, passes_limits, least_reason}
use Rattle.script_spec.specs.Reasons.{is_event_placed, is_card_there}
use Rattle.script_spec.specs.Items.{ask}
use Rattle.script_spec.proofs.RangeLaws.{any_found}
use Rattle.script_spec.proofs.LeastReasons.{first_is, first_of}
use Rattle.scripts.specs.declared.item.Asked.{Asked}
use Rattle.scripts.specs.Items.{asked_said}
use Rattle.scripts.specs.declared.fault.Reason.{Reason}
use Rattle.scripts.specs.declared.reading.Reading.{Reading}
use Rattle.scripts.specs.Valid.{in_case}
use Rattle.scripts.specs.Faults.{number_of}
use Rattle.scripts.specs.Reading.{IsReadingOf, Judges, Stands, is_below}

-- ---- of several reasons the least

module _ (items : List Item) (item : Item) where
  pub misplaced : is_misplaced items item ≡ true → least_reason items item ≡ Some 4
  misplaced ea = first_is true _ _ _ _ _ _ items item ea refl refl refl refl refl refl

  module _ (ea : is_misplaced items item ≡ false) where
    pub repeated : is_repeated items item ≡ true → least_reason items item ≡ Some 5
    repeated eb = first_is false true _ _ _ _ _ items item ea eb refl refl refl refl refl

    module _ (eb : is_repeated items item ≡ false) where
      pub no_setup : (is_phase item && lacks_setup items) ≡ true → least_reason items item ≡ Some 6
      no_setup ec = first_is false false true _ _ _ _ items item ea eb ec refl refl refl refl

      module _ (ec : (is_phase item && lacks_setup items) ≡ false) where
        pub out_of_range : is_in_range item ≡ false → least_reason items item ≡ Some 7
        out_of_range ed = first_is false false false false _ _ _ items item ea eb ec ed refl refl refl

        module _ (ed : is_in_range item ≡ true) (ee : is_placed item ≡ true) (ef : is_there items item ≡ true) where
          pub past_limit : passes_limits (item ∷ items) ≡ true → least_reason items item ≡ Some 10
          past_limit eg = first_is false false false true true true true items item ea eb ec ed ee ef eg

          pub no_reason : passes_limits (item ∷ items) ≡ false → least_reason items item ≡ None
          no_reason eg = first_is false false false true true true false items item ea eb ec ed ee ef eg

-- ---- places

-- a line of the setup stands before the first phase
pub setup_place : (items : List Item) (item : Item) (any : Bool) → is_setup item ≡ true →
    list_any is_phase items ≡ any → is_misplaced items item ≡ any
setup_place items item any setup e = grind (arith, nat_tests)

pub phase_placed : (items : List Item) → is_misplaced items BeginPhase ≡ false
phase_placed items = grind (arith, nat_tests)

-- the setup is whole by the first phase
pub lacks_is : (items : List Item) → (list_any is_phase items ≡ true → has_setup items ≡ true) →
    lacks_setup items ≡ not (has_setup items)
lacks_is items whole = grind (arith, nat_tests)

-- ---- what is kept

any_counted : {X : Type 0} (p : X → Bool) (xs : List X) → list_any p xs ≡ nat_lt 0 (length (filter p xs))
any_counted p [] = refl
any_counted p (x ∷ xs) = grind (arith, nat_tests, any_counted p xs)

found : {X : Type 0} (p : Item → Bool) (f : X → Item) (items : List Item) (kept : Option X) →
    find p items ≡ option_map f kept → list_any p items ≡ is_some kept
found p f items kept e = grind (arith, nat_tests, any_found)

module _ (items : List Item) (reading : Reading) (is : IsReadingOf items reading) where
  pub phase_kept : list_any is_phase items ≡ nat_lt 0 (length reading.phases.items)
  phase_kept = any_counted is_phase items ∙ ap (nat_lt 0) is.count

  pub cpus_kept : list_any is_cpus items ≡ is_some reading.cpus
  cpus_kept = found is_cpus SetCpus items reading.cpus is.cpus

  pub memory_kept : list_any is_memory items ≡ is_some reading.mib
  memory_kept = found is_memory SetMemory items reading.mib is.mib

  pub rom_kept : list_any is_rom items ≡ is_some reading.rom
  rom_kept = found is_rom SetRom items reading.rom is.rom

  pub disk_kept : list_any is_disk items ≡ is_some reading.disk
  disk_kept = found is_disk SetDisk items reading.disk is.disk

  pub setup_kept : has_setup items ≡ (is_some reading.cpus && is_some reading.mib && is_some reading.rom)
  setup_kept = rw (cpus_kept, memory_kept, rom_kept) refl

  pub card_kept : (dev : ℕ) → has_card items dev ≡ list_any (λ card. card.dev == dev) reading.cards.items
  card_kept dev = list_any-IsPermutation (λ card. card.dev == dev) (cards_of items) reading.cards.items is.cards

-- ---- statements

-- of what a statement asks, in range or not
pub asked_place : (items : List Item) (actor : ℕ) (asked : Asked) (any : Bool) → list_any is_phase items ≡ any →
    is_misplaced items (asked_said actor asked) ≡ not any
asked_place items actor asked any e = grind (arith, nat_tests)

pub asked_repeated : (items : List Item) (actor : ℕ) (asked : Asked)
    → is_repeated items (asked_said actor asked) ≡ false
asked_repeated items actor asked = grind (arith, nat_tests)

pub asked_begun : (items : List Item) (actor : ℕ) (asked : Asked) →
    (is_phase (asked_said actor asked) && lacks_setup items) ≡ false
asked_begun items actor asked = grind (arith, nat_tests)

-- ---- numbers in range

pub none_in_case : {X : Type 0} (holds : Bool) (x : X) → None ≡ in_case holds x → holds ≡ false
none_in_case holds x e = grind (arith, nat_tests)

pub some_in_case : {X : Type 0} (holds : Bool) (x y : X) → Some y ≡ in_case holds x → (holds ≡ true) × (y ≡ x)
some_in_case holds x y e = grind (arith, nat_tests)

-- ---- limits

abbrev pub past : (statements phases pulses memory : ℕ) → Bool
past statements phases pulses memory =
    nat_lt 250_000 statements || nat_lt 1_000 phases || nat_lt 100_000_000 pulses || nat_lt 0x400_0000 memory

pub within : (statements phases pulses memory : ℕ) → statements ≤ 250_000 → phases ≤ 1_000 → pulses ≤ 100_000_000 →
    memory ≤ 0x400_0000 → past statements phases pulses memory ≡ false
within statements phases pulses memory few_statements few_phases few_pulses little = grind (arith, nat_tests)

pub past_phases : (statements phases pulses memory : ℕ) → 1_000 < phases → past statements phases pulses memory ≡ true
past_phases statements phases pulses memory more = grind (arith, nat_tests)

pub past_memory : (statements phases pulses memory : ℕ) → 0x400_0000 < memory →
    past statements phases pulses memory ≡ true
past_memory statements phases pulses memory more = grind (arith, nat_tests)

pub memory_cons : (card : FittedCard) (cards : List FittedCard) →
    memory_of_cards (card ∷ cards) ≡ sum_by memory_size card.bases + memory_of_cards cards
memory_cons card cards = sum_by-append memory_size card.bases (flat_map (λ card. card.bases) cards)

abbrev pub one_more : Bool → ℕ → ℕ
one_more test n = if test then n + 1 else n

abbrev pub memory_with : Item → ℕ → ℕ
memory_with (FitCard card) memory = sum_by memory_size card.bases + memory
memory_with _ memory = memory

-- with one item more
pub limits_with : (items : List Item) (reading : Reading) (item : Item) → IsReadingOf items reading →
    passes_limits (item ∷ items)
    ≡ past (one_more (is_statement item) reading.statements) (one_more (is_phase item) (length reading.phases.items))
    (pulses_of item + reading.pulses) (memory_with item reading.memory)
limits_with items reading item is = grind (arith, nat_tests, common_steps, sum_by-cons, memory_cons)

-- of an event in range
module _ (actor : ℕ) (asked : Asked) (event : Event)
    (valid : Some (ask actor event) ≡ in_case (is_in_range (asked_said actor asked)) (asked_said actor asked)) where
  pub few_pulses : pulses_of_event event ≤ 1_000_000
  few_pulses = grind (arith, nat_tests, common_steps, some_in_case)

  -- the least reason, of those that are left after a `phase`
  pub asked_reason : (items : List Item) (reading : Reading) → IsReadingOf items reading →
      list_any is_phase items ≡ true →
      least_reason items (asked_said actor asked) ≡ first_of false false false false (not (is_event_placed event))
      (not (is_below actor reading.cpus && is_card_there items event))
      (nat_lt 250_000 (reading.statements + 1) || nat_lt 100_000_000 (pulses_of_event event + reading.pulses))
  asked_reason items reading is begun =
      let read = some_in_case _ _ _ valid in
      ap (least_reason items) (sym read.1)
      ∙ first_is false false false true _ _ _ items (ask actor event)
      (grind (arith, nat_tests)) refl refl (ap is_in_range read.1 ∙ read.0) refl
      (ap (λ b. b && is_card_there items event) (is.actors actor))
      (limits_with items reading (ask actor event) is
      ∙ (grind (arith, nat_tests, is.limits.phases, is.limits.memory)))

pub setup_within : (items : List Item) (reading : Reading) (item : Item) → IsReadingOf items reading →
    is_setup item ≡ true → pulses_of item ≡ 0 →
    memory_with item reading.memory ≤ 0x400_0000 → passes_limits (item ∷ items) ≡ false
setup_within items reading item is setup pulses little =
    grind (arith, nat_tests, common_steps, limits_with, within)

-- a reason that is handed on
pub refused : {X : Type 0} (said : X → Item) (items : List Item) (item : Item) (result : Result X Reason)
    (least : Reason) → IsErr result × IsErrAnd result (λ handed. handed ≡ least) →
    least_reason items item ≡ Some (number_of least) → Judges said items item result
refused said items item result least e is = grind (arith, nat_tests)

-- a line of the setup with a name is refused for no more reasons
pub name_judged : (items : List Item) (reading : Reading) (item : Item) (result : Result (Unit {0}) Reason) →
    IsReadingOf items reading → is_setup item ≡ true → is_in_range item ≡ true → is_placed item ≡ true →
    is_there items item ≡ true → memory_with item reading.memory ≡ reading.memory → pulses_of item ≡ 0 →
    Stands items item result → Judges (λ done. item) items item result
name_judged items reading item result is setup range placed there memory pulses stands =
    grind (arith, nat_tests, common_steps, no_reason, setup_within)

-- ---- what functions of `reason` cite

pub ruleset setup_rules = (nat_tests, common_steps, setup_place, misplaced, repeated)

pub ruleset number_rules = (nat_tests, common_steps, cpus_kept, memory_kept, refused)

pub ruleset limit_rules = (limits_with, past_phases, past_limit, within, no_reason)

pub ruleset phase_rules = (nat_tests, common_steps, setup_kept, no_setup, phase_placed, lacks_is, limit_rules)
