-- What a history leaves: the registers, the bytes behind the addresses, and the devices.
use Rattle.std.specs.Prelude.{ℕ, ◌≡◌, ◌%◌, List, length}
use Rattle.board_prelude.specs.{Event, Entry, Setup, IsSetup, IsInRange, installed, kept_address, reset_control}
use Rattle.board_prelude.specs.{config_address, byte_of, version_of, Bytes, IsFlatMapOf}
use Rattle.addr_decode.specs.MapRegs.{StandsFor}
use Rattle.map_builder.specs.Map.{Mapped}
use Rattle.pci_bars.specs.Contents.{HaveSizes}
use Rattle.config_regs.specs.Config.{AreKeptOf}
use Rattle.board_stores.specs.Puts.{HasStores}
use Rattle.board_devices.specs.Devices.{AreDevicesOf, HasDisk}
use Rattle.board_chipset.specs.declared.registers.Registers.{Registers}
use Rattle.board_chipset.specs.declared.state.State.{State}
use Rattle.board_chipset.specs.Versions.{version_count, AreLastChanged}

-- the ranges of a map are the flat map of every board that has its registers
abbrev pub IsFlat : Mapped → Type 0
IsFlat map = (setup : Setup) (bytes : Bytes) → StandsFor setup bytes map.regs → IsFlatMapOf setup bytes map.ranges

-- the registers after a history: the configuration address, the reset control, those in configuration space, and
-- the memory map of those on which it depends
pub record HasRegisters (setup : Setup) (history : List Entry) (registers : Registers) : Type 0 where
  pub address : registers.address ≡ config_address history
  pub control : registers.control ≡ reset_control history
  pub kept : AreKeptOf setup (byte_of setup history) registers.map.regs registers.south
  pub version : registers.map.version ≡ version_of setup history % version_count
  pub changed : AreLastChanged setup history registers.map.changed
  pub flat : IsFlat registers.map

pub record IsStateOf (setup : Setup) (history : List Entry) (state : State) : Type 0 where
  pub fits : IsSetup setup
  pub registers : HasRegisters setup history state.registers
  pub stores : HasStores setup history state.stores
  pub devices : AreDevicesOf setup history state.devices

-- registers that stand for register bytes of a board with this setup, a configuration address without the bits that are
-- not kept, and the memory map of these registers
pub record AreSound (setup : Setup) (registers : Registers) : Type 0 where
  pub bytes : Bytes
  pub kept : AreKeptOf setup bytes registers.map.regs registers.south
  pub address : kept_address registers.address ≡ registers.address
  pub flat : IsFlat registers.map

-- what each step rests on and keeps, whether or not a history leaves a board so: sound registers, as many bytes of DRAM
-- as are installed, and of each card as it has, and a disk exactly where one is fitted, with as many sectors. The
-- devices' types say the rest
pub record IsSound (setup : Setup) (state : State) : Type 0 where
  pub fits : IsSetup setup
  pub registers : AreSound setup state.registers
  pub memory : length state.stores.dram ≡ installed setup
  pub contents : HaveSizes setup state.stores.contents
  pub disk : HasDisk setup.disk state.devices.disk

-- a step keeps it
abbrev pub StaysSound : State → State → Type 0
StaysSound old new = (setup : Setup) → IsSound setup old → IsSound setup new

-- a sound state of some board with this ROM
pub record IsState (state : State) (rom : List ℕ) : Type 0 where
  pub setup : Setup
  pub sound : IsSound setup state
  pub image : setup.rom ≡ rom

-- an event is in range for such a board
pub record CanDo (state : State) (rom : List ℕ) (event : Event) : Type 0 where
  pub kept : IsState state rom
  pub in_range : IsInRange kept.setup event
