-- What is kept of the lines so far, held against the items that they say.
use Rattle.std.specs.Prelude.{ℕ, ◌≡◌, ◌≤◌, Bool, true, false, not, nat_lt, List, ◌∷◌, length, filter, reverse, sum_by}
use Rattle.std.specs.Prelude.{Option, Some, None, Result, Ok, Err}
use Rattle.board_prelude.specs.{option_map, list_any, find, IsPermutation, most_statements, most_phases, most_pulses}
use Rattle.board_prelude.specs.{most_card_memory, Rises, memory_of_cards}
use Rattle.script_spec.specs.Grammar.{Item, SetCpus, SetMemory, SetRom, SetDisk}
use Rattle.script_spec.specs.Reasons.{is_phase, is_statement, is_setup, is_cpus, is_memory, is_rom, is_disk}
use Rattle.script_spec.specs.Reasons.{is_cpus_above, cards_of, has_setup, pulses_of, is_misplaced, is_repeated}
use Rattle.script_spec.specs.Reasons.{least_reason}
use Rattle.script_spec.specs.ScriptText.{phase_items}
use Rattle.script_spec.specs.Phases.{lists_of}
use Rattle.scripts.specs.declared.fault.Reason.{Reason}
use Rattle.scripts.specs.declared.reading.Reading.{Reading}
use Rattle.scripts.specs.Faults.{number_of}

-- no limit is passed
pub record IsWithinLimits (reading : Reading) : Type 0 where
  pub statements : reading.statements ≤ most_statements
  pub phases : length reading.phases.items ≤ most_phases
  pub pulses : reading.pulses ≤ most_pulses
  pub memory : reading.memory ≤ most_card_memory

abbrev pub is_below : (actor : ℕ) → Option ℕ → Bool
is_below actor None = false
is_below actor (Some cpus) = nat_lt actor cpus

-- the lines so far say these items, the newest first, and this is what is kept of them
pub record IsReadingOf (items : List Item) (reading : Reading) : Type 0 where
  pub cpus : find is_cpus items ≡ option_map SetCpus reading.cpus
  pub actors : (actor : ℕ) → list_any (is_cpus_above actor) items ≡ is_below actor reading.cpus
  pub mib : find is_memory items ≡ option_map SetMemory reading.mib
  pub rom : find is_rom items ≡ option_map SetRom reading.rom
  pub disk : find is_disk items ≡ option_map SetDisk reading.disk
  pub cards : IsPermutation (cards_of items) reading.cards.items
  pub rises : Rises reading.cards.items
  pub memory : memory_of_cards (cards_of items) ≡ reading.memory
  pub statements : length (filter is_statement items) ≡ reading.statements
  pub pulses : sum_by pulses_of items ≡ reading.pulses
  pub count : length (filter is_phase items) ≡ length reading.phases.items
  pub phases : reverse (filter (λ item. not (is_setup item)) items) ≡ phase_items (lists_of reading.phases.items)
  -- the setup is whole by the first phase
  pub whole : list_any is_phase items ≡ true → has_setup items ≡ true
  pub limits : IsWithinLimits reading

-- an item is taken where there is no reason to refuse it, and refused for the least
abbrev pub Judges : {X : Type 0} → (X → Item) → (items : List Item) → Item → Result X Reason → Type 0
Judges said items item (Ok x) = (least_reason items item ≡ None) × (said x ≡ item)
Judges said items item (Err reason) = least_reason items item ≡ Some (number_of reason)

-- a line of the setup stands before the first phase and is the first of its kind, or is refused
abbrev pub Stands : (items : List Item) → Item → Result (Unit {0}) Reason → Type 0
Stands items item (Ok done) = (is_misplaced items item ≡ false) × (is_repeated items item ≡ false)
Stands items item (Err reason) = least_reason items item ≡ Some (number_of reason)

-- with an item that there is no reason to refuse, one value follows on another
abbrev pub Takes : (old : Reading) → Item → (new : Reading) → Type 0
Takes old item new =
    (items : List Item) → IsReadingOf items old → least_reason items item ≡ None → IsReadingOf (item ∷ items) new
