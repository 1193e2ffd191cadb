-- What is taken of a line: an item with its numbers in range.
use Rattle.std.specs.Prelude.{◌≤◌, Bool, if◌then◌else◌, Option, Some, None}
use Rattle.board_spec.specs.Setup.{IsCard}
use Rattle.script_spec.specs.Grammar.{Item, SetCpus, SetMemory, SetRom, SetDisk, FitCard, BeginPhase, Ask, IsName}
use Rattle.script_spec.specs.Reasons.{pulses_of_event}
use Rattle.scripts.specs.declared.valid.ValidItem.{ValidItem}
use Rattle.scripts.specs.declared.valid.ValidItem.TheVariants.{Cpus, Memory, Rom, Disk, Card, Phase, Asked}

-- something where a test holds
abbrev pub in_case : {A : Type 0} → Bool → A → Option A
in_case holds x = if holds then Some x else None

abbrev pub item_said : ValidItem → Item
item_said (Cpus count) = SetCpus count
item_said (Memory mib) = SetMemory mib
item_said (Rom name) = SetRom name.now
item_said (Disk name) = SetDisk name.now
item_said (Card card) = FitCard card
item_said Phase = BeginPhase
item_said (Asked statement) = Ask statement

-- what holds of an item whatever came before it
abbrev pub IsValid : ValidItem → Type 0
IsValid (Cpus count) = Unit {0}
IsValid (Memory mib) = Unit {0}
IsValid (Rom name) = IsName name.now
IsValid (Disk name) = IsName name.now
IsValid (Card card) = IsCard card
IsValid Phase = Unit {0}
IsValid (Asked statement) = pulses_of_event statement.event ≤ 1_000_000
