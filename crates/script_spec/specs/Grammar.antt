-- What a line of a script says after its first line. A statement is spelled as the log spells it, with hexadecimal
-- digits in either case, and everything else as it stands. The forms are those of a version of scripts, 1 or 2.
use Rattle.std.specs.Prelude.{ℕ, ◌≡◌, ◌≢◌, ◌+◌, ◌%◌, ◌^◌, ◌≤◌, ◌<◌, ◌⊎◌, ◌==◌, Bool, true, ◌||◌, if◌then◌else◌, List}
use Rattle.std.specs.Prelude.{[], ◌∷◌, ◌++◌, length, flat_map, take, All, Option, Some, None, IfSome, codes, decimal}
use Rattle.board_prelude.specs.{AllZip, list_all, PortAccess, WideAccess, Moment, bytes_of, weekday_of, Event, Memory}
use Rattle.board_prelude.specs.{Wide, Port, Ack, Time, Stimulus, stimulus_form, applied_by, Statement, Base, MemoryBase}
use Rattle.board_prelude.specs.{IoBase, OutsideBase, FittedCard, is_within, is_write, FitsBytes, space, event_text}
use Rattle.board_base.specs.declared.access.Access.{Access}
use Rattle.board_spec.specs.declared.event.Event.TheVariants.{Look as LookAt}

-- what a line says
pub data Item : Type 0 where
  SetCpus : (count : ℕ) → Item
  SetMemory : (mib : ℕ) → Item
  SetRom : (name : List ℕ) → Item
  SetDisk : (name : List ℕ) → Item
  FitCard : (card : FittedCard) → Item
  BeginPhase : Item
  Ask : (statement : Statement) → Item
  -- a stimulus with a level that is neither 0 nor 1, by which no event is asked
  AskLevel : (actor : ℕ) → (stimulus : Stimulus) → (number level : ℕ) → Item

-- ---- how it is spelled

-- no script spells an outside base (`IsBaseForm`), and none can be read
abbrev pub base_text : Base → List ℕ
base_text (MemoryBase bits) = codes " m" ++ decimal bits
base_text (IoBase bits) = codes " i" ++ decimal bits
base_text (OutsideBase bits) = codes " o" ++ decimal bits

abbrev pub rom_text : Option ℕ → List ℕ
rom_text None = []
rom_text (Some bits) = codes " x" ++ decimal bits

abbrev pub card_text : FittedCard → List ℕ
card_text card =
    decimal card.dev ++ codes (if card.vga then " vga" else " plain") ++ flat_map base_text card.bases
    ++ rom_text card.rom

unfoldable pub item_text : Item → List ℕ
item_text (SetCpus count) = codes "cpus " ++ decimal count
item_text (SetMemory mib) = codes "memory " ++ decimal mib
item_text (SetRom name) = codes "rom " ++ name
item_text (SetDisk name) = codes "disk " ++ name
item_text (FitCard card) = codes "card " ++ card_text card
item_text BeginPhase = codes "phase"
item_text (Ask statement) = decimal statement.actor ++ space ∷ event_text statement.event
item_text (AskLevel actor stimulus number level) =
    decimal actor ++ space ∷ (stimulus_form stimulus).word ++ space ∷ decimal number ++ space ∷ decimal level

-- a byte stands for itself, and a small letter a to f for the digit A to F
abbrev pub StandsFor : (written byte : ℕ) → Type 0
StandsFor written byte = (written ≡ byte) ⊎ ((is_within 0x41 0x46 byte ≡ true) × (written ≡ byte + 0x20))

-- a line says an item: the text of a statement has no capital A to F but its hexadecimal digits
abbrev pub Says : (line : List ℕ) → Item → Type 0
Says line (Ask statement) = AllZip StandsFor line (item_text (Ask statement))
Says line item = line ≡ item_text item

-- ---- the forms, whatever the numbers are: how many digits a field can have

-- at most nine digits
abbrev pub IsDecimal : ℕ → Type 0
IsDecimal n = n < 1_000_000_000

-- a letter, a digit or `_`
abbrev pub is_name_start : ℕ → Bool
is_name_start byte = is_within 0x30 0x39 byte || is_within 0x41 0x5A byte || is_within 0x61 0x7A byte || byte == 0x5F

-- one of those, `.` or `-`
abbrev pub is_name_byte : ℕ → Bool
is_name_byte byte = is_name_start byte || byte == 0x2E || byte == 0x2D

-- 1 to 64 such characters
pub record IsName (name : List ℕ) : Type 0 where
  pub some : 1 ≤ length name
  pub few : length name ≤ 64
  pub first : list_all is_name_start (take 1 name) ≡ true
  pub each : list_all is_name_byte name ≡ true

abbrev pub IsBaseForm : Base → Type 0
IsBaseForm (MemoryBase bits) = IsDecimal bits
IsBaseForm (IoBase bits) = IsDecimal bits
IsBaseForm (OutsideBase bits) = ⊥

-- version 1 has no expansion ROMs
abbrev pub IsRomForm : (version : ℕ) → Option ℕ → Type 0
IsRomForm version None = Unit {0}
IsRomForm version (Some bits) = (version ≡ 2) × IsDecimal bits

pub record IsCardForm (version : ℕ) (card : FittedCard) : Type 0 where
  pub dev : IsDecimal card.dev
  pub count : length card.bases ≤ 6
  pub each : All IsBaseForm card.bases
  pub rom : IsRomForm version card.rom

-- an address has eight digits, and a value the digits of its width. In version 2 an access that is not aligned is a
-- wide one
pub record IsMemoryForm (version : ℕ) (access : Access) : Type 0 where
  pub addr : access.addr < 2 ^ 32
  pub value : FitsBytes (is_write access.kind) (bytes_of access.width) access.value
  pub aligned : version ≡ 2 → access.addr % bytes_of access.width ≡ 0

-- version 1 has no wide accesses
pub record IsWideForm (version : ℕ) (access : WideAccess) : Type 0 where
  pub second : version ≡ 2
  pub addr : access.addr < 2 ^ 32
  pub bytes : (access.bytes ≡ 2) ⊎ (access.bytes ≡ 4) ⊎ (access.bytes ≡ 8)
  pub wide : (access.bytes ≡ 8) ⊎ (access.addr % access.bytes ≢ 0)
  pub value : FitsBytes (is_write access.kind) access.bytes access.value

pub record IsPortForm (access : PortAccess) : Type 0 where
  pub port : access.port < 2 ^ 16
  pub value : FitsBytes access.write (bytes_of access.width) access.value

-- four digits for the year, two for each other part, and the weekday that follows. The calendar may not have it
pub record IsMomentForm (moment : Moment) : Type 0 where
  pub year : moment.year < 10_000
  pub month : moment.month < 100
  pub day : moment.day < 100
  pub weekday : moment.weekday ≡ weekday_of moment.year moment.month moment.day
  pub hour : moment.hour < 100
  pub minute : moment.minute < 100
  pub second : moment.second < 100

abbrev pub IsEventForm : (version : ℕ) → Event → Type 0
IsEventForm version (Memory access) = IsMemoryForm version access
IsEventForm version (Wide access) = IsWideForm version access
IsEventForm version (Port access) = IsPortForm access
IsEventForm version (LookAt kind addr smm) = addr < 2 ^ 32
IsEventForm version Ack = Unit {0}
IsEventForm version (Time moment) = IsMomentForm moment
IsEventForm version event = IfSome (applied_by event) (λ said. IsDecimal said.number)

pub record IsLevelForm (actor : ℕ) (stimulus : Stimulus) (number level : ℕ) : Type 0 where
  pub who : IsDecimal actor
  pub what : (stimulus_form stimulus).has_level ≡ true
  pub which : IsDecimal number
  pub few : IsDecimal level
  pub high : 2 ≤ level

abbrev pub IsForm : (version : ℕ) → Item → Type 0
IsForm version (SetCpus count) = IsDecimal count
IsForm version (SetMemory mib) = IsDecimal mib
IsForm version (SetRom name) = IsName name
IsForm version (SetDisk name) = IsName name
IsForm version (FitCard card) = IsCardForm version card
IsForm version BeginPhase = Unit {0}
IsForm version (Ask statement) = IsDecimal statement.actor × IsEventForm version statement.event
IsForm version (AskLevel actor stimulus number level) = IsLevelForm actor stimulus number level

-- a line has a form of the version, which says this
pub record HasForm (version : ℕ) (line : List ℕ) (item : Item) : Type 0 where
  pub form : IsForm version item
  pub says : Says line item
