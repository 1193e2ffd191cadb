-- The state after bytes were written from outside: entries that put a byte each, one after another from a place on.
-- They write no register and reach no device.
use Rattle.std.proofs.Common.{◌≡◌, ℕ, zero, suc, ◌+◌, ◌-◌, ◌&&◌, ◌==◌, nat_le, nat_lt, if◌then◌else◌, List, [], ◌∷◌}
use Rattle.std.proofs.Common.{◌++◌, length, slice_index, unwrap_or, Option, Some, None, refl, sym, ◌∙◌, ap, arith}
use Rattle.std.proofs.Common.{false, ◌≤◌, Result, Ok, Err, OnOk, OnErr}
use Rattle.board_prelude.proofs.{nat_tests, Event, Reply, Entry, Setup, Cell, entry_put, stored_of, device_reached}
use Rattle.board_prelude.proofs.{Write, One, Dram, Device, clock_index_port, clock_data_port, Memory, Port, Bus}
use Rattle.board_prelude.proofs.{DramCell, CardCell, clock_of}
use Rattle.board_base.specs.declared.access.Access.{Access}
use Rattle.board_devices.specs.Devices.{DevicesValue, AreDevicesOf}
use Rattle.board_devices.specs.Events.{PassesBy}
use Rattle.board_devices.specs.Outside.{byte_out, WritesClock, PutsClockByte}
use Rattle.board_devices.proofs.DeviceLemmas.{leaves_devices}
use Rattle.board_stores.specs.declared.stores.Stores.{Stores}
use Rattle.board_chipset.specs.declared.registers.Registers.{Registers}
use Rattle.board_chipset.specs.declared.state.State.{State}
use Rattle.board_chipset.specs.Kept.{HasRegisters, IsStateOf}
use Rattle.board_chipset.specs.Ports.{Writes}
use Rattle.board_chipset.specs.Loads.{WriteInTurn, WriteAll, IsClockWrite, WriteClockByte}
use Rattle.board_chipset.proofs.StateSteps.{quiet, soft, HavePut, stores_after, stores_stay}
use Rattle.board_base.specs.declared.target.Dev.TheVariants.{Clock as ClockChip}
use Rattle.dram_store.specs.declared.dram.PastTheEnd.{PastTheEnd}
use Rattle.dram_store.specs.Dram.{IsWritten}
use Rattle.board_stores.specs.Puts.{HasStores}

-- an event with its reply puts these bytes, and does nothing else
pub record IsPut (put : Cell → Option ℕ) (event : Event) (reply : Reply) : Type 0 where
  pub writes : (setup : Setup) (history : List Entry) → Writes setup history event None None None
  pub passes : PassesBy event (device_reached reply)
  pub puts : (cell : Cell) → entry_put event reply cell ≡ put cell

-- at a place, the byte that is put after so many, and those that so many put
abbrev pub one_put : Option ℕ → (from : ℕ) → (bytes : List ℕ) → (n : ℕ) → Option ℕ
one_put None from bytes n = None
one_put (Some at) from bytes n = if at == from + n then Some (slice_index bytes n) else None

abbrev pub all_put : Option ℕ → (from : ℕ) → (bytes : List ℕ) → (n : ℕ) → Option ℕ
all_put None from bytes n = None
all_put (Some at) from bytes n =
    if nat_le from at && nat_lt at (from + n) then Some (slice_index bytes (at - from)) else None

-- each entry puts the next byte, at the cells of that place
abbrev pub InTurn : (Cell → Option ℕ) → (from : ℕ) → (bytes : List ℕ) → List Entry → Type 0
InTurn place from bytes [] = Unit {0}
InTurn place from bytes (entry ∷ earlier) =
    IsPut (λ cell. one_put (place cell) from bytes (length earlier)) entry.event entry.reply
    × InTurn place from bytes earlier

module _ (place : Cell → Option ℕ) (from : ℕ) (bytes : List ℕ) where
  after_all : {setup : Setup} {history : List Entry} {registers : Registers} {devices : DevicesValue} →
      HasRegisters setup history registers → AreDevicesOf setup history devices →
      (entries : List Entry) → InTurn place from bytes entries →
      HasRegisters setup (entries ++ history) registers × AreDevicesOf setup (entries ++ history) devices
      × ((cell : Cell) → stored_of (entries ++ history) cell
      ≡ unwrap_or (all_put (place cell) from bytes (length entries)) (stored_of history cell))
  unfolding stored_of
  after_all has are [] each = (has, are, λ cell. grind (arith, nat_tests))
  after_all {setup} {history} has are (entry ∷ earlier) each =
      let before = after_all has are earlier each.1 in
      let none = each.0.writes setup (earlier ++ history) in
      let after = quiet {entry = entry} none before.0 in (
        after,
        leaves_devices _ _ _ _ before.1 (record { passes = each.0.passes; soft = soft none })
            (sym after.kept.south.routes ∙ before.0.kept.south.routes),
        λ cell. rw (each.0.puts cell, before.2 cell) (grind (arith, nat_tests)),
      )

  -- the state after all of them
  pub state_in_turn : {setup : Setup} {history : List Entry} {old : State} {new : Stores} →
      IsStateOf setup history old → (entries : List Entry) → length entries ≡ length bytes →
      InTurn place from bytes entries →
      HavePut (λ cell. all_put (place cell) from bytes (length bytes)) old.stores new →
      IsStateOf setup (entries ++ history) (record old { stores = new })
  state_in_turn {history = history} kept entries all each are =
      let after = after_all kept.registers kept.devices entries each in
      assumption (
        after.0,
        after.1,
        stores_after {later = entries ++ history}
            {put = λ cell. all_put (place cell) from bytes (length bytes)} kept.stores
            (λ cell. rw (← all) (after.2 cell)) are,
      )

-- ---- the entries that write to the DRAM

abbrev in_dram : Cell → Option ℕ
in_dram (DramCell at) = Some at
in_dram (CardCell dev base off) = None

module _ (addr : ℕ) (bytes : List ℕ) where
  in_turn : ((k : ℕ) → slice_index bytes k ≤ 0xFF) → (entries : List Entry) → WriteInTurn addr bytes entries →
      InTurn in_dram addr bytes entries
  unfolding WriteInTurn
  in_turn small [] each = tt
  in_turn small (entry ∷ earlier) each =
      let is = each.0 in (grind (arith, nat_tests, small (length earlier)), in_turn small earlier each.1)

  -- there are such entries
  some_first : (n : ℕ) → (entries : List Entry) × (length entries ≡ n) × WriteInTurn addr bytes entries
  unfolding WriteInTurn
  some_first zero = ([], refl, tt)
  some_first (suc n) =
      let rest = some_first n in
      let k : ℕ = length rest.0 in
      let access : Access =
      record { kind = Write; addr = addr + k; width = One; smm = false; value = slice_index bytes k } in (
        record { actor = 0; seq = 0; event = Memory access; reply = Bus None (Dram 0) None } ∷ rest.0,
        ap suc rest.1,
        (record { smm = false; target = Dram 0; denial = None; event = refl; reply = refl; in_dram = refl }, rest.2),
      )

  pub some_entries : (entries : List Entry) × WriteAll addr bytes entries
  some_entries = let some = some_first (length bytes) in (some.0, record { all = some.1; each = some.2 })

-- ---- what `load` tells

module _ (setup : Setup) (old : State) (dram : List ℕ) (addr : ℕ) (bytes : List ℕ)
    (size : length dram ≡ length old.stores.dram) (small : (k : ℕ) → slice_index bytes k ≤ 0xFF) where
  -- the state after all bytes were written to the DRAM
  loaded : addr + length bytes ≤ length old.stores.dram →
      IsWritten old.stores.dram addr (length bytes) (slice_index bytes) dram →
      (history entries : List Entry) → IsStateOf setup history old → WriteAll addr bytes entries →
      IsStateOf setup (entries ++ history) (record old { stores = record old.stores { dram = dram } })
  loaded fits is history entries kept all =
      state_in_turn in_dram addr bytes kept entries all.all (in_turn addr bytes small entries all.each)
      (record {
        size = size;
        dram = λ at within. grind (arith, nat_tests, is at);
        sizes = λ dev base number. refl;
        contents = λ dev base at number other within. refl;
      })

  pub load_left : (result : Result (Unit {0}) PastTheEnd) → OnOk result (addr + length bytes ≤ length old.stores.dram) →
      OnOk result (IsWritten old.stores.dram addr (length bytes) (slice_index bytes) dram) →
      OnOk result ((history entries : List Entry) → IsStateOf setup history old → WriteAll addr bytes entries →
      IsStateOf setup (entries ++ history) (record old { stores = record old.stores { dram = dram } }))
  load_left (Ok done) fits is = loaded fits is
  load_left (Err past) fits is = tt

  pub load_kept : (result : Result (Unit {0}) PastTheEnd) → OnOk result (addr + length bytes ≤ length old.stores.dram) →
      OnOk result (IsWritten old.stores.dram addr (length bytes) (slice_index bytes) dram) →
      OnErr result (dram ≡ old.stores.dram) → (history : List Entry) → IsStateOf setup history old →
      (later : List Entry) × IsStateOf setup later (record old { stores = record old.stores { dram = dram } })
  load_kept (Ok done) fits is same history kept =
      let some = some_entries addr bytes in
      (some.0 ++ history, loaded fits is history some.0 kept some.1)
  load_kept (Err past) fits is same history kept = (history, rw same kept)

-- ---- a byte of the clock

-- after a write to a port of the clock
clock_step :
    {setup : Setup} {history : List Entry} {registers : Registers} {stores : Stores} {port byte : ℕ} {entry : Entry} →
    Writes setup history (Port (byte_out port byte)) None None None → IsClockWrite port byte entry →
    HasRegisters setup history registers → HasStores setup history stores →
    HasRegisters setup (entry ∷ history) registers × HasStores setup (entry ∷ history) stores
    × WritesClock setup registers.south.routes history entry port byte
clock_step {setup} {history} {port = port} {byte} {entry} none is registers stores =
    let silent : Writes setup history entry.event None None None = rw (is.event) none in
    let after = quiet {entry = entry} silent registers in (
      after,
      stores_stay stores (λ cell. rw (is.event) (grind (arith, nat_tests, is.reached))),
      grind (arith, nat_tests, soft silent),
    )

-- the state after a byte of the clock was written
pub clock_set :
    {setup : Setup} {history later : List Entry} {old : State} {devices : DevicesValue} {address byte : ℕ} →
    IsStateOf setup history old → WriteClockByte history address byte later →
    (PutsClockByte setup old.registers.south.routes history address byte later → AreDevicesOf setup later devices) →
    IsStateOf setup later (record old { devices = devices })
clock_set {setup} {history} {later} {old} {devices} kept puts after =
    let one = clock_step (assumption) puts.first kept.registers kept.stores in
    let two = clock_step (assumption) puts.second one.0 one.1 in
    let three = clock_step (assumption) puts.third two.0 two.1 in
    let done = after (grind (arith, nat_tests, puts.are_last, one.2, two.2, three.2)) in
    let registers = rw (← puts.are_last) at three.0 in
    let stores = rw (← puts.are_last) at three.1 in
    assumption

clock_entry : (port byte : ℕ) → Entry
clock_entry port byte = record {
  actor = 0;
  seq = 0;
  event = Port (byte_out port byte);
  reply = Bus None (Device ClockChip) None;
}

-- there are such entries
pub some_clock_entries : (history : List Entry) (address byte : ℕ) →
    (later : List Entry) × WriteClockByte history address byte later
unfolding clock_entry
some_clock_entries history address byte = (
  clock_entry clock_index_port (clock_of history).index ∷ clock_entry clock_data_port byte
      ∷ clock_entry clock_index_port address ∷ history,
  grind (arith, nat_tests),
)

-- `write_dram` is proved by these
pub ruleset write_dram_rules = (load_left, load_kept, nat_tests)
