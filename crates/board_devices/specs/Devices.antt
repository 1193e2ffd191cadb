-- The devices as they stand are those that a history left.
use Rattle.std.specs.Prelude.{ℕ, ◌≡◌, ◌*◌, ◌<◌, ◌≤◌, ◌&&◌, Bool, false, List, length, slice_index_or, Option}
use Rattle.std.specs.Prelude.{option_map}
use Rattle.device_spec.specs.Ata.State.{sectors_of}
use Rattle.ata_pio.specs.Words.{with_all}
use Rattle.board_prelude.specs.{PitState, Pair, Clock, Triggers, Disk, Entry, Setup, is_free_line, PlainPorts}
use Rattle.board_prelude.specs.{triggers_of, plain_of, timer_of, clock_of, disk_of, wire_of, irq_of, routes_of, pair_of}

-- what the devices hold: the machines, the plain ports, INTA# of the cards by device, and the lines that `irq` set
pub record DevicesValue : Type 0 where
  pub pair : Pair
  pub timer : PitState
  pub clock : Clock
  pub disk : Option Disk
  pub triggers : Triggers
  pub plain : PlainPorts
  pub wires : List Bool
  pub irqs : List Bool

-- the levels of INTA# of the cards are those after a history
abbrev pub AreWiresOf : List Entry → List Bool → Type 0
AreWiresOf history wires =
    (dev : ℕ) → 2 ≤ dev → dev ≤ 9 → slice_index_or wires dev false ≡ wire_of history dev

-- the levels that were set from outside are those after a history, for the lines that can be set so
abbrev pub AreIrqsOf : List Entry → List Bool → Type 0
AreIrqsOf history irqs =
    (line : ℕ) → line < 16 → slice_index_or irqs line false ≡ (is_free_line line && irq_of history line)

-- all but the pair are those after a history
pub record AreAfter (setup : Setup) (history : List Entry) (devices : DevicesValue) : Type 0 where
  pub timer : devices.timer ≡ timer_of history
  pub clock : devices.clock ≡ clock_of history
  pub disk : devices.disk ≡ disk_of setup history
  pub triggers : devices.triggers ≡ triggers_of history
  pub plain : devices.plain ≡ plain_of history
  pub wires : AreWiresOf history devices.wires
  pub irqs : AreIrqsOf history devices.irqs

-- and so is the pair, which has seen the lines
pub record AreDevicesOf (setup : Setup) (history : List Entry) (devices : DevicesValue) : Type 0 where
  pub others : AreAfter setup history devices
  pub pair : devices.pair ≡ pair_of setup history

-- these are the bytes of PIRQRCA to PIRQRCD after a history
abbrev pub AreRoutesOf : Setup → List Entry → List ℕ → Type 0
AreRoutesOf setup history routes = routes ≡ routes_of setup history

-- how many sectors the disk has, where one is fitted. Nothing changes it
abbrev pub sectors_fitted : Option Disk → Option ℕ
sectors_fitted disk = option_map (λ disk. sectors_of disk.medium) disk

-- a disk is there exactly where these bytes are, with a sector for each 512 of them
abbrev pub HasDisk : (fitted : Option (List ℕ)) → Option Disk → Type 0
HasDisk fitted disk =
    option_map (λ bytes. length bytes) fitted ≡ option_map (λ sectors. 512 * sectors) (sectors_fitted disk)

-- the bytes of all sectors, where a disk is fitted
abbrev pub sectors_in : Option Disk → Option (List ℕ)
sectors_in disk = option_map (λ disk. disk.medium.bytes) disk

-- with these bytes in all sectors; which of them are bad stays
abbrev pub holding : List ℕ → Disk → Disk
holding bytes disk = record disk { medium = with_all disk.medium bytes }

abbrev pub with_sectors : List ℕ → DevicesValue → DevicesValue
with_sectors bytes devices = record devices { disk = option_map (holding bytes) devices.disk }
