-- What a line says, by its fields: the reader's way through the forms.
use Rattle.std.specs.Prelude.{ℕ, ◌==◌, Bool, true, false, ◌&&◌, nat_le, List, [], ◌∷◌, length, if◌then◌else◌, Option}
use Rattle.std.specs.Prelude.{Some, None, option_map, codes, bytes_eq}
use Rattle.board_prelude.specs.{list_all, Fetch, Read, Moment, Event, Time, Stimulus, event_applied, stimulus_of_word}
use Rattle.script_spec.specs.Grammar.{Item, SetCpus, SetMemory, SetRom, SetDisk, FitCard, BeginPhase, Ask, AskLevel}
use Rattle.script_spec.specs.Grammar.{is_name_start, is_name_byte}
use Rattle.script_spec.specs.Fields.{fields_of}
use Rattle.script_spec.specs.Numbers.{parse_decimal, ◌>>=◌}
use Rattle.script_spec.specs.Events.{parse_read, parse_write, parse_in, parse_out, parse_look, parse_ack, parse_number}
use Rattle.script_spec.specs.Events.{parse_given}
use Rattle.script_spec.specs.Cards.{parse_card}
use Rattle.script_spec.specs.Moments.{parse_moment}

-- ---- statements

abbrev pub ask : ℕ → Event → Item
ask actor event = Ask (record { actor = actor; event = event })

-- a stimulus with a number and a level
abbrev pub stimulus_item : (actor : ℕ) → Stimulus → (number level : ℕ) → Item
stimulus_item actor stimulus number level =
    if level == 0 then ask actor (event_applied stimulus number false) else
    if level == 1 then ask actor (event_applied stimulus number true) else AskLevel actor stimulus number level

unfoldable pub parse_stimulus_item : (actor : ℕ) → (verb : List ℕ) → (words : List (List ℕ)) → Option Item
parse_stimulus_item actor verb words = do
  stimulus ← stimulus_of_word verb
  given ← parse_given stimulus words
  Some (stimulus_item actor stimulus given.0 given.1)

unfoldable pub parse_only_moment : List (List ℕ) → Option Moment
parse_only_moment [] = None
parse_only_moment (field ∷ []) = parse_moment field
parse_only_moment (_ ∷ _ ∷ _) = None

unfoldable pub parse_time_item : (actor : ℕ) → List (List ℕ) → Option Item
parse_time_item actor words = option_map (λ moment. ask actor (Time moment)) (parse_only_moment words)

-- the verb says what is asked
unfoldable pub parse_by_verb : (version actor : ℕ) → (verb : List ℕ) → (words : List (List ℕ)) → Option Item
parse_by_verb version actor verb words =
    if bytes_eq verb (codes "r") then option_map (ask actor) (parse_read version Read words) else
    if bytes_eq verb (codes "f") then option_map (ask actor) (parse_read version Fetch words) else
    if bytes_eq verb (codes "w") then option_map (ask actor) (parse_write version words) else
    if bytes_eq verb (codes "in") then option_map (ask actor) (parse_in words) else
    if bytes_eq verb (codes "out") then option_map (ask actor) (parse_out words) else
    if bytes_eq verb (codes "look") then option_map (ask actor) (parse_look words) else
    if bytes_eq verb (codes "ack") then option_map (ask actor) (parse_ack words) else
    if bytes_eq verb (codes "moment") then parse_time_item actor words else parse_stimulus_item actor verb words

unfoldable pub parse_statement_words : (version actor : ℕ) → List (List ℕ) → Option Item
parse_statement_words version actor [] = None
parse_statement_words version actor (verb ∷ words) = parse_by_verb version actor verb words

-- ---- all lines

-- 1 to 64 bytes of a name
unfoldable pub is_name : List ℕ → Bool
is_name [] = false
is_name (first ∷ rest) =
    nat_le (length (first ∷ rest)) 64 && is_name_start first && list_all is_name_byte (first ∷ rest)

unfoldable pub parse_name : List (List ℕ) → Option (List ℕ)
parse_name [] = None
parse_name (name ∷ []) = if is_name name then Some name else None
parse_name (_ ∷ _ ∷ _) = None

unfoldable pub parse_phase : List (List ℕ) → Option Item
parse_phase [] = Some BeginPhase
parse_phase (_ ∷ _) = None

unfoldable pub parse_statement : (version : ℕ) → (actor : List ℕ) → List (List ℕ) → Option Item
parse_statement version actor words = do
  actor ← parse_decimal actor
  parse_statement_words version actor words

unfoldable pub parse_by_key : (version : ℕ) → (key : List ℕ) → (words : List (List ℕ)) → Option Item
parse_by_key version key words =
    if bytes_eq key (codes "phase") then parse_phase words else
    if bytes_eq key (codes "cpus") then option_map SetCpus (parse_number words) else
    if bytes_eq key (codes "memory") then option_map SetMemory (parse_number words) else
    if bytes_eq key (codes "rom") then option_map SetRom (parse_name words) else
    if bytes_eq key (codes "disk") then option_map SetDisk (parse_name words) else
    if bytes_eq key (codes "card") then option_map FitCard (parse_card version words) else
    parse_statement version key words

unfoldable pub parse_item : (version : ℕ) → List (List ℕ) → Option Item
parse_item version [] = None
parse_item version (key ∷ words) = parse_by_key version key words

-- what a line says
abbrev pub parse_line : (version : ℕ) → List ℕ → Option Item
parse_line version line = parse_item version (fields_of line)
