-- What an access at a port reaches, what it writes, and the state after it, and the change of the map that it makes.
use Rattle.std.proofs.Common.{◌≡◌, ℕ, ◌%◌, ◌^◌, Bool, true, false, ◌&&◌, List, [], ◌∷◌, drop, Option, Some, None, refl}
use Rattle.std.proofs.Common.{arith, ◌==◌, ◌+◌, ◌≤◌, is_some, ap, if◌then◌else◌, ◌≢◌, sym}
use Rattle.board_prelude.proofs.{cond_both, nat_tests, Width, Reg, Dev, Keyboard, Ata, Target, Card, Device, Config}
use Rattle.board_prelude.proofs.{Abort, Denial, bytes_of, is_port_of, device_at, Setup, config_address_port}
use Rattle.board_prelude.proofs.{reset_control_port, is_config_port, config_register, Bytes, Window, io_claim, Decoded}
use Rattle.board_prelude.proofs.{unselected, device_port, port_target_of, PortAccess, Port, Entry, MapChange, Store}
use Rattle.board_prelude.proofs.{config_address, byte_of, is_hard_reset, Cell, entry_put, byte_put, Event}
use Rattle.board_prelude.proofs.{Reset as HardReset, reset_control, is_hard_value, map_change_of, device_in}
use Rattle.board_prelude.proofs.{device_reached, device_value, port_value, Bus}
use Rattle.board_base.specs.declared.target.Dev.TheVariants.{Confadd as AddressPort, Reset, Clock}
use Rattle.device_spec.specs.PortTable.{first_with, port_devices}
use Rattle.board_devices.specs.Events.{is_chip_port, is_chip, PassesBy, ReachesDevice}
use Rattle.addr_decode.proofs.AddressLemmas.{kept_address-low_bits}
use Rattle.board_chipset.specs.declared.state.State.{State}
use Rattle.board_chipset.specs.Ports.{reached, Reaching, IsEntryOf, Writes}
use Rattle.addr_decode.specs.declared.found.ConfigRegister.{ConfigRegister}
use Rattle.addr_decode.specs.declared.found.Found.{Found}
use Rattle.addr_decode.specs.declared.found.Found.TheVariants.{Device as FoundDevice, Register as FoundRegister}
use Rattle.addr_decode.specs.Found.{decoded_as}
use Rattle.board_devices.specs.Devices.{DevicesValue, AreDevicesOf, AreRoutesOf}
use Rattle.board_stores.specs.declared.stores.Stores.{Stores}
use Rattle.board_stores.specs.Puts.{ArePut}
use Rattle.board_chipset.specs.declared.registers.Registers.{Registers}
use Rattle.board_chipset.specs.Kept.{HasRegisters, IsStateOf}
use Rattle.board_chipset.proofs.MapVersions.{map_write}
use Rattle.board_chipset.proofs.StateSteps.{change_by, change_is, stores_stay, soft, state_after, state_put}
use Rattle.board_chipset.proofs.StateSteps.{state_stays, devices_move}

-- no register is written at the port
pub record IsBeside (setup : Setup) (address port : ℕ) (width : Width) : Type 0 where
  pub control : (port == reset_control_port && bytes_of width == 1) ≡ false
  pub address_port : (port == config_address_port && bytes_of width == 4) ≡ false
  pub config : is_config_port port ≡ true → config_register setup address port ≡ None

abbrev pub IsClaimed : Setup → Bytes → (port dev base off : ℕ) → Type 0
IsClaimed setup bytes port dev base off =
    (window : Window) × (io_claim setup bytes port ≡ Some window) × (window.dev ≡ dev) × (window.base ≡ base) ×
    (port % 2 ^ window.bits ≡ off)

module _ (setup : Setup) (bytes : Bytes) (address port : ℕ) (width : Width) where
  -- what is known of an access that has this target
  abbrev pub IsReached : Target → Type 0
  IsReached (Device AddressPort) = (port ≡ config_address_port) × (bytes_of width ≡ 4)
  IsReached (Device Reset) = (port ≡ reset_control_port) × (bytes_of width ≡ 1)
  IsReached (Device dev) = IsBeside setup address port width × (is_chip_port dev port (bytes_of width) ≡ true)
  IsReached (Config reg) = (is_config_port port ≡ true) × (config_register setup address port ≡ Some reg)
  IsReached (Card dev base off) = IsBeside setup address port width × IsClaimed setup bytes port dev base off
  IsReached Abort = IsBeside setup address port width
  IsReached _ = ⊥

-- ---- line by line

module _ (setup : Setup) (bytes : Bytes) (address : ℕ) (disk : Bool) (port : ℕ) (width : Width) where
  abbrev Lands : Decoded → Type 0
  Lands decoded = IsReached setup bytes address port width decoded.target

  others : (denial : Denial) → IsBeside setup address port width → Lands (unselected setup bytes port denial)
  others denial by = grind (arith, nat_tests)

  -- ---- the devices in the order of the table

  abbrev Finds : Option Dev → Type 0
  Finds found = Lands (device_port found disk setup bytes port)

  at_device : (dev : Dev) → IsBeside setup address port width → is_port_of dev port (bytes_of width) ≡ true →
      Finds (Some dev)
  at_device Keyboard by is = grind (arith, nat_tests, others)
  at_device Clock by is = grind (arith, nat_tests, others)
  at_device Ata by is = grind (arith, nat_tests, others)
  at_device _ by is = grind (arith, nat_tests)

  in_table : (devices : List Dev) → IsBeside setup address port width → Finds (first_with devices port (bytes_of width))
  in_table [] by = others _ by
  in_table (dev ∷ later) by =
      cond_both (is_port_of dev port (bytes_of width)) (Some dev) (first_with later port (bytes_of width)) Finds
      (at_device dev by) (λ _. in_table later by)

  past_config : is_config_port port ≡ false → Finds (device_at port (bytes_of width))
  past_config not_config =
      cond_both (is_port_of AddressPort port (bytes_of width)) _ _ Finds
      (λ is. (grind (arith, nat_tests), grind (arith, nat_tests)))
      (λ other. cond_both (is_port_of Reset port (bytes_of width)) _ _ Finds
      (λ is. (grind (arith, nat_tests), grind (arith, nat_tests)))
      (λ not_reset. in_table (drop 2 port_devices) (grind (arith, nat_tests))))

  pub reaches : Lands (port_target_of setup bytes address disk port width)
  unfolding port_target_of
  reaches = cond_both (is_config_port port) _ _ Lands (λ config. grind (arith, nat_tests)) past_config

-- ---- what an access writes

abbrev pub control_at : Target → PortAccess → Option ℕ
control_at (Device Reset) access = Some access.value
control_at _ access = None

abbrev pub address_at : Target → PortAccess → Option ℕ
address_at (Device AddressPort) access = Some access.value
address_at _ access = None

abbrev pub store_at : Target → PortAccess → Option MapChange
store_at (Config reg) access = Some (Store reg access.width access.value)
store_at _ access = None

abbrev pub IsNoDevice : Target → Type 0
IsNoDevice target = (dev : Dev) → target ≡ Device dev → ⊥

abbrev pub IsNoRegister : Target → Type 0
IsNoRegister target = (reg : Reg) → target ≡ Config reg → ⊥

abbrev pub Reached : Setup → List Entry → PortAccess → Target → Type 0
Reached setup history access target =
    IsReached setup (byte_of setup history) (config_address history) access.port access.width target

module _ (setup : Setup) (history : List Entry) (access : PortAccess) where
  pub target_reached : (target : Target) → target ≡ (reached setup history access).target →
      Reached setup history access target
  target_reached target is = rw is (reaches _ _ _ (is_some setup.disk) _ _)

  pub writes_beside : IsBeside setup (config_address history) access.port access.width →
      Writes setup history (Port access) None None None
  writes_beside by = grind (arith, nat_tests)

  pub writes_at : (target : Target) → access.write ≡ true → Reached setup history access target →
      Writes setup history (Port access) (control_at target access) (address_at target access) (store_at target access)
  writes_at target writes at = grind (arith, nat_tests)

  -- by what was found
  pub writes_found : (found : Found) → ((dev : Dev) → found ≡ FoundDevice dev → ⊥) →
      ((register : ConfigRegister) → found ≡ FoundRegister register → ⊥) →
      Reached setup history access (decoded_as found).target → Writes setup history (Port access) None None None
  writes_found found device register is = writes_beside (grind (arith, nat_tests))

-- ---- what an entry tells

pub reached_in :
    {state : State} {access : PortAccess} {target : Target} → (reaching : Reaching state access target) →
    IsReached reaching.kept.setup reaching.kept.sound.registers.bytes state.registers.address access.port access.width
    target
reached_in reaching = rw (reaching.target_is) (reaches _ _ _ reaching.disk _ _)

pub register_within : {state : State} {access : PortAccess} {reg : Reg} → Reaching state access (Config reg) →
    reg.off + bytes_of access.width ≤ 0x100
register_within reaching =
    grind (arith, nat_tests, reached_in reaching, kept_address-low_bits _ reaching.kept.sound.registers.address)

pub entry_reached : {setup : Setup} {history : List Entry} {access : PortAccess} {target shown : Target}
    {entry : Entry} → target ≡ shown → IsEntryOf setup history access target entry → Reached setup history access shown
entry_reached {setup} {history} {access} {shown = shown} same is =
    target_reached setup history access shown (rw same at is.target_is)

pub entry_writes : {setup : Setup} {history : List Entry} {access : PortAccess} {target shown : Target}
    {entry : Entry} → target ≡ shown → access.write ≡ true → IsEntryOf setup history access target entry →
    Writes setup history entry.event (control_at shown access) (address_at shown access) (store_at shown access)
entry_writes {setup} {history} {access} {target} {shown} same writes is =
    rw (is.event) (writes_at setup history access shown writes (entry_reached same is))

-- ---- targets

pub no_chip : (target : Target) → IsNoDevice target → is_chip (device_in target) ≡ false
no_chip target none = grind (arith, nat_tests)

-- a device with ports of its own
pub chip_reached : {state : State} {access : PortAccess} {dev : Dev} → Reaching state access (Device dev) →
    dev ≢ AddressPort → dev ≢ Reset → is_chip_port dev access.port (bytes_of access.width) ≡ true
chip_reached reaching named control = grind (arith, nat_tests, reached_in reaching)

pub chip_value : (setup : Setup) (history : List Entry) (dev : Dev) (port : ℕ) (width : Width) → dev ≢ AddressPort →
    dev ≢ Reset → device_value setup history dev port width ≡ port_value setup history dev port width
chip_value setup history dev port width address control = grind (arith, nat_tests)

-- ---- the state after an entry

module _ {setup : Setup} {history : List Entry} {access : PortAccess} {target : Target} {entry : Entry} where
  pub passes : IsEntryOf setup history access target entry → is_chip (device_in target) ≡ false →
      PassesBy entry.event (device_reached entry.reply)
  passes is none = rw (is.event, is.reply) none

  pub puts_none : IsEntryOf setup history access target entry →
      ((cell : Cell) → byte_put target access.port access.width access.value cell ≡ None) →
      (cell : Cell) → entry_put entry.event entry.reply cell ≡ None
  puts_none is none cell = rw (is.event, is.reply) (grind (arith, nat_tests, none cell))

  -- a read that reaches no chip changes nothing
  pub read_stays : {state : State} → access.write ≡ false → is_chip (device_in target) ≡ false →
      IsStateOf setup history state → IsEntryOf setup history access target entry →
      IsStateOf setup (entry ∷ history) state
  read_stays reads none kept is =
      state_stays kept (rw (is.event) (grind (arith, nat_tests))) (passes is none)
      (λ cell. rw (is.event, is.reply, reads) refl)

  -- a write behind a base of a card, or to nobody
  pub write_stored : {old : State} {stores : Stores} → access.write ≡ true → IsNoDevice target → IsNoRegister target →
      ArePut (byte_put target access.port access.width access.value) old.stores stores → IsStateOf setup history old →
      IsEntryOf setup history access target entry → IsStateOf setup (entry ∷ history) (record old { stores = stores })
  write_stored writes device config put kept is =
      let at : Reached setup history access target = entry_reached refl is in
      state_put kept (rw (is.event) (writes_beside setup history access (grind (arith, nat_tests))))
      (passes is (no_chip target device)) (λ cell. rw (is.event, is.reply, writes) refl) put

  -- a write of registers that moves no route
  pub registers_move : {old : State} {registers : Registers} → IsStateOf setup history old →
      IsEntryOf setup history access target entry → is_chip (device_in target) ≡ false →
      ((cell : Cell) → byte_put target access.port access.width access.value cell ≡ None) →
      HasRegisters setup (entry ∷ history) registers → registers.south ≡ old.registers.south →
      is_hard_reset history entry.event ≡ false →
      IsStateOf setup (entry ∷ history) (record old { registers = registers })
  registers_move kept is none puts has south is_soft =
      state_after kept has south (stores_stay kept.stores (puts_none is puts)) (passes is none) is_soft

-- the devices after an access at a chip's port
pub chip_changed :
    {setup : Setup} {history : List Entry} {access : PortAccess} {dev : Dev} {entry : Entry} {old : State}
    {devices : DevicesValue} → dev ≢ AddressPort → dev ≢ Reset → IsStateOf setup history old →
    IsEntryOf setup history access (Device dev) entry →
    (ReachesDevice history entry dev access → AreRoutesOf setup (entry ∷ history) old.registers.south.routes →
    AreDevicesOf setup (entry ∷ history) devices) →
    IsStateOf setup (entry ∷ history) (record old { devices = devices })
chip_changed {setup} {history} {access} {dev} {entry} named control kept is after =
    let at : Reached setup history access (Device dev) = entry_reached refl is in
    let beside : IsBeside setup (config_address history) access.port access.width = grind (arith, nat_tests, at) in
    let none : Writes setup history entry.event None None None =
    rw (is.event) (writes_beside setup history access beside) in
    devices_move kept none (puts_none is (λ cell. refl)) (after (grind (arith, nat_tests, soft none, is.reply)))

-- ---- the entry of an access that reached this

pub entry_is : {setup : Setup} {history : List Entry} {access : PortAccess} {target : Target} {denial : Option Denial}
    {value : Option ℕ} {entry : Entry} → record { target = target; denial = denial } ≡ reached setup history access →
    entry.event ≡ Port access → entry.reply ≡ Bus value target denial → IsEntryOf setup history access target entry
entry_is is event said = grind (arith, nat_tests)

-- ---- the change of the map that an event makes

pub changes : {setup : Setup} {history : List Entry} {event : Event} {written address : Option ℕ}
    {store : Option MapChange} → Writes setup history event written address store →
    map_write setup (change_by (reset_control history) written store) ≡ map_change_of setup history event
unfolding map_change_of
changes {setup} writes = ap (map_write setup) (sym (change_is writes))

pub by_device : (setup : Setup) (history : List Entry) (access : PortAccess) (dev : Dev) (change : Option MapChange) →
    access.write ≡ true → Reached setup history access (Device dev) →
    (dev ≡ Reset → change ≡ (if is_hard_value (reset_control history) access.value then Some HardReset else None)) →
    ((dev ≡ Reset → ⊥) → change ≡ None) → change ≡ map_change_of setup history (Port access)
unfolding map_change_of
by_device setup history access dev change writes at control other = grind (arith, nat_tests)
