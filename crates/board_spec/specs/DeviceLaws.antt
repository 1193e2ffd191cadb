-- What leaves the 8259A pair and the devices alone, and what the pair has seen.
use Rattle.std.specs.Prelude.{ℕ, ◌≡◌, ◌⊎◌, false, List, [], ◌∷◌, Some}
use Rattle.board_base.specs.declared.target.Reg.{Reg}
use Rattle.board_base.specs.declared.target.Dev.{Dev}
use Rattle.board_base.specs.declared.target.Dev.TheVariants.{Pic0, Pic1, Elcr}
use Rattle.device_spec.specs.Pair.{levels_at_power_on, pair_after_lines}
use Rattle.board_spec.specs.declared.event.Event.{Event}
use Rattle.board_spec.specs.declared.event.Event.TheVariants.{Memory, Wide, Port, Look as LookAt, Ack, Pulses}
use Rattle.board_spec.specs.declared.event.Reply.{Reply}
use Rattle.board_spec.specs.declared.event.Entry.{Entry}
use Rattle.board_spec.specs.Setup.{Setup}
use Rattle.board_spec.specs.Registers.{is_hard_reset, byte_of}
use Rattle.board_spec.specs.Devices.{device_reached, wire_of, irq_of, triggers_of, plain_of, timer_of, clock_of}
use Rattle.board_spec.specs.Devices.{disk_with}
use Rattle.board_spec.specs.Interrupts.{levels_of, elcr_of, pair_of}

-- ---- one device

-- the reply names a device as what answered
abbrev pub NamesDevice : Reply → Dev → Type 0
NamesDevice reply dev = device_reached reply ≡ Some dev

-- ---- the lines

-- a board begins with the timer's line alone at 1
abbrev pub FirstLevels : Type 0
FirstLevels = (setup : Setup) → levels_of setup [] ≡ levels_at_power_on

-- ---- the pair

-- the pair has seen the lines as they stand: the same levels once more change nothing
abbrev pub PairHasSeen : Type 0
PairHasSeen =
    (setup : Setup) (history : List Entry) →
    pair_after_lines (pair_of setup history) (levels_of setup history) (elcr_of history) ≡ pair_of setup history

-- an entry acts on the pair by itself: an acknowledge, pulses, or an access to the pair or to ELCR
abbrev pub ActsOnPair : Event → Reply → Type 0
ActsOnPair Ack reply = Unit {0}
ActsOnPair (Pulses count) reply = Unit {0}
ActsOnPair (Port access) reply = NamesDevice reply Pic0 ⊎ NamesDevice reply Pic1 ⊎ NamesDevice reply Elcr
ActsOnPair _ reply = ⊥

-- any other entry that moves no line leaves the pair
abbrev pub PairStays : Type 0
PairStays =
    (setup : Setup) (before : List Entry) (entry : Entry) →
    is_hard_reset before entry.event ≡ false → ¬ ActsOnPair entry.event entry.reply →
    levels_of setup (entry ∷ before) ≡ levels_of setup before →
    pair_of setup (entry ∷ before) ≡ pair_of setup before

-- ---- memory

-- memory accesses and looks, which reach no device
abbrev pub IsOfMemory : Event → Type 0
IsOfMemory (Memory access) = Unit {0}
IsOfMemory (Wide access) = Unit {0}
IsOfMemory (LookAt kind addr smm) = Unit {0}
IsOfMemory _ = ⊥

-- every register and device, the lines and the pair are as before
pub record SameDevices (setup : Setup) (before history : List Entry) : Type 0 where
  pub registers : (reg : Reg) → byte_of setup history reg ≡ byte_of setup before reg
  pub timer : timer_of history ≡ timer_of before
  pub plain : plain_of history ≡ plain_of before
  pub triggers : triggers_of history ≡ triggers_of before
  pub clock : clock_of history ≡ clock_of before
  pub disk : (bytes : List ℕ) → disk_with bytes history ≡ disk_with bytes before
  pub wires : (dev : ℕ) → wire_of history dev ≡ wire_of before dev
  pub lines : (line : ℕ) → irq_of history line ≡ irq_of before line
  pub levels : levels_of setup history ≡ levels_of setup before
  pub pair : pair_of setup history ≡ pair_of setup before

abbrev pub MemoryLeavesDevices : Type 0
MemoryLeavesDevices =
    (setup : Setup) (before : List Entry) (entry : Entry) → IsOfMemory entry.event →
    SameDevices setup before (entry ∷ before)
