-- The state after an entry: its registers, the bytes behind the addresses, and its devices.
use Rattle.std.proofs.Common.{arith, ◌≡◌, ◌≢◌, ◌<◌, ℕ, false, List, [], ◌∷◌, Option, Some, None, refl, sym, ◌∙◌, ap}
use Rattle.std.proofs.Common.{if◌then◌else◌, unwrap_or, option_map, length, slice_index, subst}
use Rattle.board_prelude.proofs.{nat_tests, Event, Entry, MapChange, Setup, config_address, byte_of, PortAccess}
use Rattle.board_prelude.proofs.{is_hard_reset, Cell, DramCell, CardCell, entry_put, stored_of, device_reached, Port}
use Rattle.board_prelude.proofs.{Reset, control_after, resets_hard, kept_address, reset_control, register_change}
use Rattle.board_prelude.proofs.{byte_with}
use Rattle.config_regs.specs.Config.{AreKeptOf}
use Rattle.config_regs.specs.declared.south.South.{South}
use Rattle.pci_bars.specs.Contents.{IsBaseNumber, held}
use Rattle.board_devices.specs.Devices.{DevicesValue, AreDevicesOf, AreRoutesOf, sectors_fitted}
use Rattle.board_devices.specs.Events.{PassesBy}
use Rattle.board_devices.proofs.DeviceLemmas.{leaves_devices}
use Rattle.board_devices.proofs.DiskSizes.{opened_has}
use Rattle.board_stores.specs.declared.stores.Stores.{Stores}
use Rattle.board_stores.specs.Puts.{HasStores, ArePut}
use Rattle.board_chipset.specs.declared.registers.Registers.{Registers}
use Rattle.board_chipset.specs.declared.state.State.{State}
use Rattle.board_chipset.specs.Kept.{AreSound, HasRegisters, IsFlat, IsSound, IsStateOf}
use Rattle.board_chipset.specs.Ports.{Writes}
use Rattle.board_chipset.proofs.MapVersions.{version_by, modulo_after, Follow, changed_after}

-- ---- the registers

-- what is done to the registers in configuration space: a hard reset, or the store
abbrev pub change_by : ℕ → Option ℕ → Option MapChange → Option MapChange
change_by control written store = if resets_hard control written then Some Reset else store

pub change_is : {setup : Setup} {history : List Entry} {event : Event} {written address : Option ℕ}
    {store : Option MapChange} → Writes setup history event written address store →
    register_change setup history event ≡ change_by (reset_control history) written store
change_is writes = rw (writes.control_is, writes.store_is) refl

-- the registers after an entry, by what it writes
pub follows :
    {setup : Setup} {history : List Entry} {entry : Entry} {old new : Registers} {written address : Option ℕ}
    {store : Option MapChange} →
    Writes setup history entry.event written address store → HasRegisters setup history old →
    new.address ≡
    (if resets_hard old.control written then 0 else unwrap_or (option_map kept_address address) old.address) →
    new.control ≡ control_after old.control written →
    AreKeptOf setup (λ reg. byte_with setup (change_by old.control written store) reg (byte_of setup history reg))
    new.map.regs new.south →
    new.map.version ≡ version_by setup (change_by old.control written store) old.map.version →
    Follow setup history (change_by old.control written store) old.map.changed new.map.changed → IsFlat new.map →
    HasRegisters setup (entry ∷ history) new
unfolding config_address reset_control byte_of
follows {setup} {history} {entry} {old} {new} {written} {store = store} writes has address control kept version windows
    flat =
    let change : register_change setup history entry.event ≡ change_by old.control written store =
    rw (has.control) (change_is writes) in
    let moved = subst
    (λ (c : Option MapChange). AreKeptOf setup (λ reg. byte_with setup c reg (byte_of setup history reg))
    new.map.regs new.south) (sym change) kept in
    let changed = changed_after setup history entry _ change old.map.changed new.map.changed has.changed windows in
    grind (arith, nat_tests, modulo_after setup history entry _ change)

-- an event that is no access at a port writes no register
pub writes_none : (setup : Setup) (history : List Entry) (event : Event) →
    ((access : PortAccess) → event ≡ Port access → ⊥) → Writes setup history event None None None
writes_none setup history event not = grind (arith, nat_tests)

-- an event that writes no register leaves them all
pub quiet : {setup : Setup} {history : List Entry} {entry : Entry} {old : Registers} →
    Writes setup history entry.event None None None → HasRegisters setup history old →
    HasRegisters setup (entry ∷ history) old
quiet none has = follows none has refl refl has.kept refl refl has.flat

-- ---- the bytes behind the addresses

-- bytes were put into what is kept
pub record HavePut (put : Cell → Option ℕ) (old new : Stores) : Type 0 where
  pub size : length new.dram ≡ length old.dram
  pub dram : (at : ℕ) → at < length old.dram →
      slice_index new.dram at ≡ unwrap_or (put (DramCell at)) (slice_index old.dram at)
  pub sizes : (dev base : ℕ) → IsBaseNumber dev base →
      length (held new.contents dev base) ≡ length (held old.contents dev base)
  pub contents : (dev base at : ℕ) → IsBaseNumber dev base → base ≢ 6 → at < length (held old.contents dev base) →
      slice_index (held new.contents dev base) at
      ≡ unwrap_or (put (CardCell dev base at)) (slice_index (held old.contents dev base) at)

pub stores_after : {setup : Setup} {history later : List Entry} {put : Cell → Option ℕ} {old new : Stores} →
    HasStores setup history old →
    ((cell : Cell) → stored_of later cell ≡ unwrap_or (put cell) (stored_of history cell)) → HavePut put old new →
    HasStores setup later new
stores_after {old = old} has same is = grind (arith, nat_tests)

-- an entry puts the bytes that were put
pub stores_put : {setup : Setup} {history : List Entry} {entry : Entry} {put : Cell → Option ℕ} {old new : Stores} →
    HasStores setup history old → ((cell : Cell) → entry_put entry.event entry.reply cell ≡ put cell) →
    ArePut put old new → HasStores setup (entry ∷ history) new
unfolding stored_of
stores_put {put = put} {old} {new} has same is = grind (arith, nat_tests)

-- an entry that puts no byte leaves all as it is
pub stores_stay :
    {setup : Setup} {history : List Entry} {entry : Entry} {stores : Stores} → HasStores setup history stores →
    ((cell : Cell) → entry_put entry.event entry.reply cell ≡ None) → HasStores setup (entry ∷ history) stores
stores_stay has none = stores_put {put = λ cell. None} has none search

-- ---- the state

pub soft : {setup : Setup} {history : List Entry} {event : Event} {address : Option ℕ} {store : Option MapChange} →
    Writes setup history event None address store → is_hard_reset history event ≡ false
soft writes = rw (writes.control_is) refl

module _ {setup : Setup} {history : List Entry} {entry : Entry} {old : State} where
  -- an entry that moves no route and reaches no device
  pub state_after : {registers : Registers} {stores : Stores} → IsStateOf setup history old →
      HasRegisters setup (entry ∷ history) registers → registers.south ≡ old.registers.south →
      HasStores setup (entry ∷ history) stores → PassesBy entry.event (device_reached entry.reply) →
      is_hard_reset history entry.event ≡ false →
      IsStateOf setup (entry ∷ history) (record old { registers = registers; stores = stores })
  state_after kept has south stores passes is_soft =
      assumption
      (leaves_devices setup history entry old.devices kept.devices (record { passes = passes; soft = is_soft })
      (sym has.kept.south.routes ∙ ap (λ (it : South). it.routes) south ∙ kept.registers.kept.south.routes))

  -- one that writes no register, and puts these bytes
  pub state_put : {put : Cell → Option ℕ} {stores : Stores} → IsStateOf setup history old →
      Writes setup history entry.event None None None → PassesBy entry.event (device_reached entry.reply) →
      ((cell : Cell) → entry_put entry.event entry.reply cell ≡ put cell) → ArePut put old.stores stores →
      IsStateOf setup (entry ∷ history) (record old { stores = stores })
  state_put kept none passes same is =
      state_after kept (quiet none kept.registers) refl (stores_put kept.stores same is) passes (soft none)

  -- and one that puts none
  pub state_stays : IsStateOf setup history old → Writes setup history entry.event None None None →
      PassesBy entry.event (device_reached entry.reply) →
      ((cell : Cell) → entry_put entry.event entry.reply cell ≡ None) → IsStateOf setup (entry ∷ history) old
  state_stays kept none passes puts =
      state_after kept (quiet none kept.registers) refl (stores_stay kept.stores puts) passes (soft none)

  -- an entry that writes no register, puts no byte, and leaves these devices
  pub devices_move : {devices : DevicesValue} → IsStateOf setup history old →
      Writes setup history entry.event None None None →
      ((cell : Cell) → entry_put entry.event entry.reply cell ≡ None) →
      (AreRoutesOf setup (entry ∷ history) old.registers.south.routes → AreDevicesOf setup (entry ∷ history) devices) →
      IsStateOf setup (entry ∷ history) (record old { devices = devices })
  devices_move kept none puts after =
      let registers = quiet {entry = entry} none kept.registers in
      assumption (registers, stores_stay {entry = entry} kept.stores puts, after registers.kept.south.routes)

-- ---- what needs no history

module _ {setup : Setup} {old : State} (sound : IsSound setup old) where
  -- bytes that were put
  pub sound_put : {put : Cell → Option ℕ} {stores : Stores} → ArePut put old.stores stores →
      IsSound setup (record old { stores = stores })
  sound_put is = grind (arith, nat_tests)

  -- other registers, and other devices with as many sectors of a disk
  pub sound_changed : {registers : Registers} {devices : DevicesValue} → AreSound setup registers →
      sectors_fitted devices.disk ≡ sectors_fitted old.devices.disk →
      IsSound setup (record old { registers = registers; devices = devices })
  sound_changed is fitted = grind (arith, nat_tests)

  pub sound_devices : {devices : DevicesValue} → sectors_fitted devices.disk ≡ sectors_fitted old.devices.disk →
      IsSound setup (record old { devices = devices })
  sound_devices fitted = sound_changed sound.registers fitted

-- the state after power-on
pub fresh_sound : {setup : Setup} {state : State} → IsStateOf setup [] state → IsSound setup state
unfolding config_address
fresh_sound {setup} {state} is =
    grind (arith, nat_tests, opened_has setup state.devices is.fits.disk is.devices.others.disk)
