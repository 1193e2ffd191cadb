-- The state of a chipset as bytes, over the setup that it was opened with, of which the bytes have the sizes alone. The
-- ranges of the map are not in them: they are built anew of its registers.
use Rattle.std.specs.Prelude.{ℕ, ◌≡◌, ◌+◌, ◌<◌, ◌⊎◌, ◌==◌, Bool, false, not, List, [], ◌∷◌, ◌++◌, length, Option}
use Rattle.std.specs.Prelude.{is_some, unwrap_or, Result, Ok, Err, IfOk, codes}
use Rattle.std.specs.Int.{w8, w16, w32, to_le_bytes}
use Rattle.board_prelude.specs.{FittedCard, Setup, IsSetup}
use Rattle.byte_fields.specs.declared.fault.Fault.{Fault}
use Rattle.byte_fields.specs.declared.fault.Fault.TheVariants.{NoMemory}
use Rattle.byte_fields.specs.Fields.{Reading, gives, ◌>>=◌, within, exactly, flag_byte, Filled}
use Rattle.board_chipset.specs.Alone.{alone}
use Rattle.addr_decode.specs.AddressState.{IsAddress, address_bytes, address_fields}
use Rattle.dram_store.specs.State.{HasMib, dram_bytes, dram_fields}
use Rattle.pci_bars.specs.State.{AreContents, contents_bytes, contents_fields}
use Rattle.config_regs.specs.State.{IsSouth, south_bytes, south_fields}
use Rattle.map_builder.specs.State.{IsMapped, bare, mapped_bytes, mapped_fields}
use Rattle.board_stores.specs.declared.stores.Stores.{Stores}
use Rattle.board_devices.specs.State.{AreDevices, devices_bytes, devices_fields}
use Rattle.board_chipset.specs.declared.registers.Registers.{Registers}
use Rattle.board_chipset.specs.declared.state.State.{State}
use Rattle.board_chipset.specs.Chipset.{Running}

-- ---- the head: a mark, the version of the format, and what the chipset is fitted with: the memory in MiB, the number
-- of cards, whether there is a disk, and the sizes of ROM and disk, which is 0 without one

abbrev pub state_mark : List ℕ
state_mark = codes "BOARDSTA"

abbrev pub state_version : ℕ
state_version = 1

abbrev pub disk_size : Setup → ℕ
disk_size setup = length (unwrap_or setup.disk [])

unfoldable pub size_bytes : Setup → List ℕ
size_bytes setup =
    to_le_bytes w16 setup.mib
    ++ (length setup.cards ∷ flag_byte (is_some setup.disk) ∷ []
    ++ (to_le_bytes w32 (length setup.rom) ++ to_le_bytes w32 (disk_size setup)))

unfoldable pub head_bytes : Setup → List ℕ
head_bytes setup = state_mark ++ (to_le_bytes w16 state_version ++ size_bytes setup)

-- each has its one value
unfoldable pub size_fields : Setup → Reading (Unit {0})
size_fields setup = do
  mib ← within w16 setup.mib setup.mib
  cards ← within w8 (length setup.cards) (length setup.cards)
  has_disk ← within w8 (flag_byte (is_some setup.disk)) (flag_byte (is_some setup.disk))
  rom ← within w32 (length setup.rom) (length setup.rom)
  disk ← within w32 (disk_size setup) (disk_size setup)
  gives tt

unfoldable pub head_fields : Setup → Reading (Unit {0})
head_fields setup = do
  mark ← exactly state_mark
  version ← within w16 state_version state_version
  sizes ← size_fields setup
  gives tt

-- whether the version that follows the mark is another one
unfoldable pub other_version_field : Reading Bool
other_version_field = do
  mark ← exactly state_mark
  version ← within w16 0 0xFFFF
  gives (not (version == state_version))

abbrev pub said_true : Result (Bool × List ℕ) ℕ → Bool
said_true (Ok got) = got.0
said_true (Err left) = false

-- these bytes begin with the mark, and then have a version that is not this one
unfoldable pub is_other_version : List ℕ → Bool
is_other_version bytes = said_true (other_version_field bytes)

-- ---- the registers: the configuration address, reset control, the map with its registers, and the 82371SB's others

pub record AreRegisters (cards : List FittedCard) (registers : Registers) : Type 0 where
  pub address : IsAddress registers.address
  pub control : registers.control < 256
  pub map : IsMapped cards registers.map
  pub south : IsSouth registers.south

unfoldable pub registers_bytes : Registers → List ℕ
registers_bytes registers =
    address_bytes registers.address
    ++ (registers.control ∷ [] ++ (mapped_bytes registers.map ++ south_bytes registers.south))

abbrev pub bare_registers : Registers → Registers
bare_registers registers = record registers { map = bare registers.map }

unfoldable pub registers_fields : List FittedCard → Reading Registers
registers_fields cards = do
  address ← address_fields
  control ← within w8 0 255
  map ← mapped_fields cards
  south ← south_fields
  gives (record { address = address; control = control; map = map; south = south })

-- ---- the bytes behind the addresses: the DRAM, and those of the cards

pub record AreStores (setup : Setup) (stores : Stores) : Type 0 where
  pub dram : HasMib setup.mib stores.dram
  pub contents : AreContents setup.cards stores.contents

unfoldable pub stores_bytes : Stores → List ℕ
stores_bytes stores = dram_bytes stores.dram ++ contents_bytes stores.contents

unfoldable pub stores_fields : Setup → Reading Stores
stores_fields setup = do
  dram ← dram_fields setup.mib
  contents ← contents_fields setup.cards
  gives (record { dram = dram; contents = contents })

-- ---- all that a chipset holds

pub record IsWhole (setup : Setup) (state : State) : Type 0 where
  pub registers : AreRegisters setup.cards state.registers
  pub stores : AreStores setup state.stores
  pub devices : AreDevices setup.disk state.devices

unfoldable pub state_bytes : (fitted : Option (List ℕ)) → State → List ℕ
state_bytes fitted state =
    registers_bytes state.registers ++ (stores_bytes state.stores ++ devices_bytes fitted state.devices)

abbrev pub bare_state : State → State
bare_state state = record state { registers = bare_registers state.registers }

unfoldable pub state_fields : Setup → Reading State
state_fields setup = do
  registers ← registers_fields setup.cards
  stores ← stores_fields setup
  devices ← devices_fields setup.disk
  gives (record { registers = registers; stores = stores; devices = devices })

-- ---- the chipset

-- a chipset that can be saved, and be loaded again
pub record IsChipset (chipset : Running) : Type 0 where
  pub fits : IsSetup chipset.setup
  pub whole : IsWhole chipset.setup chipset.state

unfoldable pub chipset_bytes : Running → List ℕ
chipset_bytes chipset = head_bytes chipset.setup ++ state_bytes chipset.setup.disk chipset.state

abbrev pub bare_chipset : Running → Running
bare_chipset chipset = record chipset { state = bare_state chipset.state }

-- the chipset that is read has no ranges yet
unfoldable pub chipset_fields : Setup → Reading Running
chipset_fields setup = do
  head ← head_fields setup
  state ← state_fields setup
  gives (record { setup = setup; state = state })

-- What a call says that reads a chipset of this setup from the front of bytes: `Loads`, where what is read is compared
-- without the ranges of the map
pub record LoadsChipset (setup : Setup) (before after : List ℕ) (result : Result Running Fault) : Type 0 where
  pub loaded : IfOk result (λ chipset.
      (chipset.setup ≡ setup) × IsChipset chipset × (before ≡ chipset_bytes chipset ++ after))
  pub exact : (chipset : Running) (rest : List ℕ) → chipset.setup ≡ setup → IsChipset chipset →
      before ≡ chipset_bytes chipset ++ rest →
      (result ≡ Err NoMemory) ⊎ ((result ≡ Ok chipset) × (after ≡ rest))
  pub bad : Filled bare_chipset result after (chipset_fields setup before)

-- the field at this offset is the first that is not whole or out of range, or the first byte too many
pub record IsBadStateAt (setup : Setup) (bytes : List ℕ) (at : ℕ) : Type 0 where
  pub left : ℕ
  pub place : at + left ≡ length bytes
  pub bad : alone (chipset_fields setup) bytes ≡ Err left
