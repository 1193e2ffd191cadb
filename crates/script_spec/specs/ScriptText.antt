-- The text of a script, and where a text is none.
use Rattle.std.specs.Prelude.{ℕ, ◌≡◌, ◌≢◌, ◌+◌, ◌<◌, ◌≤◌, ◌⊎◌, ◌==◌, Bool, true, false, not, List, [], ◌∷◌, ◌++◌}
use Rattle.std.specs.Prelude.{length, map, filter, flat_map, reverse, Option, Some, None, option_map, codes, decimal}
use Rattle.board_prelude.specs.{find, IsPermutation, Statement, FittedCard, Rises}
use Rattle.script_spec.specs.Lines.{lines_of}
use Rattle.script_spec.specs.Grammar.{Item, SetCpus, SetMemory, SetRom, SetDisk, BeginPhase, Ask, HasForm}
use Rattle.script_spec.specs.Reasons.{is_setup, is_cpus, is_memory, is_rom, is_disk, cards_of, lacks_setup}
use Rattle.script_spec.specs.Reasons.{least_reason}

-- what a script says: its version, the processors, the installed memory in MiB, the names of the files of the ROM
-- and of the disk where there is one, the cards in rising order of device, and the statements of each phase
pub record Script : Type 0 where
  pub version : ℕ
  pub cpus : ℕ
  pub mib : ℕ
  pub rom : List ℕ
  pub disk : Option (List ℕ)
  pub cards : List FittedCard
  pub phases : List (List Statement)

-- ---- one line after the first, after these items

abbrev pub most_bytes : ℕ
most_bytes = 120

-- empty lines and comments say nothing
abbrev pub is_skipped : List ℕ → Bool
is_skipped [] = true
is_skipped (first ∷ rest) = first == 0x23

pub record IsSkipped (line : List ℕ) : Type 0 where
  pub short : length line ≤ most_bytes
  pub skipped : is_skipped line ≡ true

-- a line says an item, and there is no reason to refuse it
pub record IsGoodLine (version : ℕ) (before : List Item) (line : List ℕ) (item : Item) : Type 0 where
  pub short : length line ≤ most_bytes
  pub read : is_skipped line ≡ false
  pub has : HasForm version line item
  pub none : least_reason before item ≡ None

-- a line says an item that is refused
pub record IsRefusedLine (version : ℕ) (before : List Item) (line : List ℕ) (why : ℕ) : Type 0 where
  pub short : length line ≤ most_bytes
  pub read : is_skipped line ≡ false
  pub item : Item
  pub has : HasForm version line item
  pub least : least_reason before item ≡ Some why

-- a line has none of the forms of its version
pub record IsFormless (version : ℕ) (line : List ℕ) : Type 0 where
  pub short : length line ≤ most_bytes
  pub read : is_skipped line ≡ false
  pub none : (item : Item) → ¬ HasForm version line item

-- a line is bad for this reason, the least that holds: reason 2 holds of comments too
abbrev pub IsBadLine : (version : ℕ) → List Item → List ℕ → (why : ℕ) → Type 0
IsBadLine version before line why =
    ((most_bytes < length line) × (why ≡ 2))
    ⊎ (IsFormless version line × (why ≡ 3))
    ⊎ IsRefusedLine version before line why

-- ---- all lines after the first

-- with these lines the items before become these, the newest first
abbrev pub AreRead : (version : ℕ) → (before : List Item) → (lines : List (List ℕ)) → (items : List Item) → Type 0
AreRead version before [] items = items ≡ before
AreRead version before (line ∷ later) items =
    (IsSkipped line × AreRead version before later items)
    ⊎ ((item : Item) × IsGoodLine version before line item × AreRead version (item ∷ before) later items)

-- the first of the rest is bad; the end counts as a line, which is bad where the setup is not whole
abbrev pub EndsBadly : (version : ℕ) → List Item → (rest : List (List ℕ)) → (why : ℕ) → Type 0
EndsBadly version items [] why = (lacks_setup items ≡ true) × (why ≡ 6)
EndsBadly version items (line ∷ later) why = IsBadLine version items line why

-- ---- the whole

abbrev pub IsVersion : ℕ → Type 0
IsVersion version = (version ≡ 1) ⊎ (version ≡ 2)

abbrev pub first_line : (version : ℕ) → List ℕ
first_line version = codes "board " ++ decimal version

-- the lines of phases
abbrev pub phase_items : List (List Statement) → List Item
phase_items phases = flat_map (λ phase. BeginPhase ∷ map Ask phase) phases

-- what items say together, the setup in any order
pub record IsSaidBy (script : Script) (items : List Item) : Type 0 where
  pub cpus : find is_cpus items ≡ Some (SetCpus script.cpus)
  pub memory : find is_memory items ≡ Some (SetMemory script.mib)
  pub rom : find is_rom items ≡ Some (SetRom script.rom)
  pub disk : find is_disk items ≡ option_map SetDisk script.disk
  pub cards : IsPermutation (cards_of items) script.cards
  pub rises : Rises script.cards
  pub phases : reverse (filter (λ item. not (is_setup item)) items) ≡ phase_items script.phases

-- a text is that of a script, which says this
pub record IsScriptText (bytes : List ℕ) (script : Script) : Type 0 where
  pub version : IsVersion script.version
  pub later : List (List ℕ)
  pub lines : lines_of bytes ≡ first_line script.version ∷ later
  pub items : List Item
  pub read : AreRead script.version [] later items
  pub whole : lacks_setup items ≡ false
  pub said : IsSaidBy script items

-- line 1 names no version, or there is none
abbrev pub BeginsBadly : List (List ℕ) → Type 0
BeginsBadly lines = (version : ℕ) (later : List (List ℕ)) → IsVersion version → lines ≢ first_line version ∷ later

-- a line after the first is bad, and those before it are not
pub record IsBadLater (lines : List (List ℕ)) (line why : ℕ) : Type 0 where
  pub version : ℕ
  pub known : IsVersion version
  pub good : List (List ℕ)
  pub rest : List (List ℕ)
  pub cut : lines ≡ first_line version ∷ (good ++ rest)
  pub items : List Item
  pub read : AreRead version [] good items
  pub bad : EndsBadly version items rest why
  pub place : line ≡ length good + 2

-- a text is none of a script: this is its first bad line, from 1 on, and the least reason for it
abbrev pub IsScriptBad : List ℕ → (line why : ℕ) → Type 0
IsScriptBad bytes line why =
    (BeginsBadly (lines_of bytes) × (line ≡ 1) × (why ≡ 1)) ⊎ IsBadLater (lines_of bytes) line why
