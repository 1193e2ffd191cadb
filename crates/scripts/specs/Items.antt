-- What the reader's values say.
use Rattle.std.specs.Prelude.{ℕ, List, map}
use Rattle.board_prelude.specs.{Moment, moment_of, Time, Base, MemoryBase, IoBase, FittedCard}
use Rattle.script_spec.specs.Grammar.{Item, SetCpus, SetMemory, SetRom, SetDisk, FitCard, BeginPhase, HasForm}
use Rattle.script_spec.specs.Cards.{Tail}
use Rattle.script_spec.specs.Items.{ask, stimulus_item}
use Rattle.scripts.specs.declared.item.Item.{Item as Line}
use Rattle.scripts.specs.declared.item.Item.TheVariants.{Cpus, Memory, Rom, Disk, Card, Phase, Statement as Asks}
use Rattle.scripts.specs.declared.item.Asked.{Asked}
use Rattle.scripts.specs.declared.item.Asked.TheVariants.{Event as AnEvent, Moment as AMoment, Stimulus as Applies}
use Rattle.scripts.specs.declared.card.BaseField.{BaseField}
use Rattle.scripts.specs.declared.card.BaseField.TheVariants.{Memory as MemoryField, Io as IoField}
use Rattle.scripts.specs.declared.card.CardFields.{CardFields}
use Rattle.scripts.specs.declared.card.Tail.{Tail as TailFields}
use Rattle.scripts.specs.declared.moment.MomentFields.{MomentFields}

abbrev pub base_said : BaseField → Base
base_said (MemoryField bits) = MemoryBase bits
base_said (IoField bits) = IoBase bits

abbrev pub card_said : CardFields → FittedCard
card_said card = record { dev = card.dev; vga = card.vga; bases = map base_said card.bases.items; rom = card.rom }

abbrev pub tail_said : TailFields → Tail
tail_said tail = record { bases = map base_said tail.bases.items; rom = tail.rom }

abbrev pub moment_said : MomentFields → Moment
moment_said m = moment_of m.year m.month m.day m.hour m.minute m.second

abbrev pub asked_said : (actor : ℕ) → Asked → Item
asked_said actor (AnEvent event) = ask actor event
asked_said actor (AMoment moment) = ask actor (Time (moment_said moment))
asked_said actor (Applies stimulus number level) = stimulus_item actor stimulus number level

abbrev pub line_said : Line → Item
line_said (Cpus count) = SetCpus count
line_said (Memory mib) = SetMemory mib
line_said (Rom name) = SetRom name.now
line_said (Disk name) = SetDisk name.now
line_said (Card card) = FitCard (card_said card)
line_said Phase = BeginPhase
line_said (Asks actor asked) = asked_said actor asked

-- a line has no form of the version
abbrev pub HasNoForm : (version : ℕ) → (line : List ℕ) → Type 0
HasNoForm version line = (item : Item) → ¬ HasForm version line item
