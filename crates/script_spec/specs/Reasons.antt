-- Why a line that has a form is refused, by the items of the lines before it, the newest first.
use Rattle.std.specs.Prelude.{ℕ, ◌+◌, ◌%◌, ◌==◌, nat_le, nat_lt, Bool, true, false, not, ◌&&◌, ◌||◌, List, [], ◌∷◌}
use Rattle.std.specs.Prelude.{length, filter, sum_by, Option, option_map, if◌then◌else◌}
use Rattle.board_prelude.specs.{list_all, list_any, find, bytes_of, is_moment, Event, Memory, Wide, Port, Pulses, Time}
use Rattle.board_prelude.specs.{Wire, stimulus_form, applied_by, option_map_or, most_statements, most_phases}
use Rattle.board_prelude.specs.{most_pulses, most_card_memory, FittedCard, is_base_in_range, is_rom_in_range}
use Rattle.board_prelude.specs.{memory_of_cards, is_within}
use Rattle.script_spec.specs.Grammar.{Item, SetCpus, SetMemory, SetRom, SetDisk, FitCard, BeginPhase, Ask, AskLevel}

-- ---- kinds of items

abbrev pub is_phase : Item → Bool
is_phase BeginPhase = true
is_phase _ = false

abbrev pub is_statement : Item → Bool
is_statement (Ask statement) = true
is_statement (AskLevel actor stimulus number level) = true
is_statement _ = false

abbrev pub is_setup : Item → Bool
is_setup item = not (is_phase item || is_statement item)

abbrev pub is_cpus : Item → Bool
is_cpus (SetCpus count) = true
is_cpus _ = false

abbrev pub is_memory : Item → Bool
is_memory (SetMemory mib) = true
is_memory _ = false

abbrev pub is_rom : Item → Bool
is_rom (SetRom name) = true
is_rom _ = false

abbrev pub is_disk : Item → Bool
is_disk (SetDisk name) = true
is_disk _ = false

-- the cards that items fit
abbrev pub cards_of : List Item → List FittedCard
cards_of [] = []
cards_of (FitCard card ∷ before) = card ∷ cards_of before
cards_of (_ ∷ before) = cards_of before

abbrev pub has_card : List Item → (dev : ℕ) → Bool
has_card before dev = list_any (λ card. card.dev == dev) (cards_of before)

-- ---- 4: a setup line stands after the first `phase`, or a statement before it

abbrev pub is_misplaced : List Item → Item → Bool
is_misplaced before item =
    if list_any is_phase before then is_setup item else is_statement item

-- ---- 5: a setup line of its kind, for cards of its device, came before

abbrev pub is_repeated : List Item → Item → Bool
is_repeated before (SetCpus count) = list_any is_cpus before
is_repeated before (SetMemory mib) = list_any is_memory before
is_repeated before (SetRom name) = list_any is_rom before
is_repeated before (SetDisk name) = list_any is_disk before
is_repeated before (FitCard card) = has_card before card.dev
is_repeated before _ = false

-- ---- 6: it is the first `phase`, or the end without one, and cpus, memory or rom is missing

abbrev pub has_setup : List Item → Bool
has_setup before = list_any is_cpus before && list_any is_memory before && list_any is_rom before

abbrev pub lacks_setup : List Item → Bool
lacks_setup before = not (list_any is_phase before) && not (has_setup before)

-- ---- 7: a number is out of range, or the calendar has no such moment

-- the most processors and MiB of a script
abbrev pub largest_cpus : ℕ
largest_cpus = 8

abbrev pub largest_mib : ℕ
largest_mib = 64

abbrev pub is_card_in_range : FittedCard → Bool
is_card_in_range card = is_within 2 9 card.dev && list_all is_base_in_range card.bases && is_rom_in_range card.rom

abbrev pub is_event_in_range : Event → Bool
is_event_in_range (Time m) = is_moment m.year m.month m.day m.hour m.minute m.second
is_event_in_range event =
    option_map_or (λ said. (stimulus_form said.stimulus).numbers said.number) (applied_by event) true

abbrev pub is_in_range : Item → Bool
is_in_range (SetCpus count) = is_within 1 largest_cpus count
is_in_range (SetMemory mib) = is_within 1 largest_mib mib
is_in_range (FitCard card) = is_card_in_range card
is_in_range (Ask statement) = is_event_in_range statement.event
is_in_range (AskLevel actor stimulus number level) = false
is_in_range _ = true

-- ---- 8: the address or the port is not a multiple of the width, or a wide access passes FFFFFFFF

abbrev pub is_event_placed : Event → Bool
is_event_placed (Memory access) = access.addr % bytes_of access.width == 0
is_event_placed (Wide access) = nat_le (access.addr + access.bytes) 0x1_0000_0000
is_event_placed (Port access) = access.port % bytes_of access.width == 0
is_event_placed _ = true

abbrev pub is_placed : Item → Bool
is_placed (Ask statement) = is_event_placed statement.event
is_placed _ = true

-- ---- 9: the processor is not below cpus, or `wire` names a device without a card

abbrev pub is_cpus_above : (actor : ℕ) → Item → Bool
is_cpus_above actor (SetCpus count) = nat_lt actor count
is_cpus_above actor _ = false

abbrev pub is_card_there : List Item → Event → Bool
is_card_there before (Wire dev on) = has_card before dev
is_card_there before _ = true

abbrev pub is_there : List Item → Item → Bool
is_there before (Ask statement) =
    list_any (is_cpus_above statement.actor) before && is_card_there before statement.event
is_there before (AskLevel actor stimulus number level) = list_any (is_cpus_above actor) before
is_there before _ = true

-- ---- 10: statement 250,001, phase 1,001, pulses past 100,000,000, or memory bases past 64 MiB

abbrev pub pulses_of_event : Event → ℕ
pulses_of_event (Pulses count) = count
pulses_of_event _ = 0

abbrev pub pulses_of : Item → ℕ
pulses_of (Ask statement) = pulses_of_event statement.event
pulses_of _ = 0

abbrev pub passes_limits : List Item → Bool
passes_limits items =
    nat_lt most_statements (length (filter is_statement items))
    || nat_lt most_phases (length (filter is_phase items))
    || nat_lt most_pulses (sum_by pulses_of items)
    || nat_lt most_card_memory (memory_of_cards (cards_of items))

-- ---- the least reason

-- a reason, and whether it holds
pub record Reason : Type 0 where
  pub why : ℕ
  pub holds : Bool

abbrev pub reason : ℕ → Bool → Reason
reason why holds = record { why = why; holds = holds }

-- the reasons for which an item can be refused after these, the least first
abbrev pub reasons : List Item → Item → List Reason
reasons before item =
    reason 4 (is_misplaced before item)
    ∷ reason 5 (is_repeated before item)
    ∷ reason 6 (is_phase item && lacks_setup before)
    ∷ reason 7 (not (is_in_range item))
    ∷ reason 8 (not (is_placed item))
    ∷ reason 9 (not (is_there before item))
    ∷ reason 10 (passes_limits (item ∷ before))
    ∷ []

unfoldable pub least_reason : List Item → Item → Option ℕ
least_reason before item = option_map (λ r. r.why) (find (λ r. r.holds) (reasons before item))
