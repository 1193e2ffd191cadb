-- What an entry makes of the devices. All are stepped at once: the machines that an event leaves are the same by
-- computing, so that no lemma about an entry has a column for each device.
use Rattle.board_prelude.proofs.{common_steps, or-false, nat_tests, cases_eq, cases_Bool, ext_get_or, length-map}
use Rattle.board_prelude.proofs.{get_or-map, same-levels, pair_has_seen, reset as timer_at_reset}
use Rattle.board_prelude.proofs.{after_reset as clock_after_reset, reserved-rest, power_on as disk_at_power_on}
use Rattle.board_prelude.proofs.{elcr-same, map-same}
use Rattle.board_prelude.specs.{PortAccess, Dev, Pit, Ata, PitState, out_of, triggers_at_reset, Pair}
use Rattle.board_prelude.specs.{levels_at_power_on, pair_after_lines, pair_at_reset, Disk, option_map_or}
use Rattle.board_prelude.specs.{is_disk_length, Event, Port, Pulses, Wire, Line, BadSector, Reply, Entry, Setup, IsDisk}
use Rattle.board_prelude.specs.{IsDiskSize, is_free_line, is_hard_reset, plain_at_reset, device_reached, wire_set}
use Rattle.board_prelude.specs.{wire_of, line_set, irq_of, triggers_after, triggers_of, plain_after, plain_of}
use Rattle.board_prelude.specs.{timer_after, timer_of, clock_after, clock_of, disk_after, disk_with, disk_of, routes_of}
use Rattle.board_prelude.specs.{own_level, level_with, all_lines, levels_with, levels_of, elcr_of, device_value}
use Rattle.board_prelude.specs.{pair_after, pair_reset_or_after, pair_of, after_bad, byte_of, config_store, list_any}
use Rattle.board_prelude.specs.{is_interrupt, config_address}
use Rattle.std.proofs.Common.{◌≡◌, ℕ, ◌<◌, ◌≤◌, Bool, true, false, ◌||◌, ◌&&◌, List, [], ◌∷◌, Option, Some, None}
use Rattle.std.proofs.Common.{length, get_or, refl, sym, ◌∙◌, ap, subst, arith, ◌*◌, ◌/◌, ◌%◌, replicate, eq-eqb}
use Rattle.std.proofs.Common.{ne_eqb, get_or-set_same, get_or-set_other, length-set, ◌↔◌, Result, Err, ◌==◌, unwrap_or}
use Rattle.std.proofs.Common.{map, option_map, slice_index_or, slice_set, if◌then◌else◌}
use Rattle.board_devices.specs.Laws.{LeavesDevices}
use Rattle.board_devices.specs.Devices.{DevicesValue, AreIrqsOf, AreRoutesOf, AreAfter, AreDevicesOf}
use Rattle.board_devices.specs.Events.{ReachesDevice, Asks, PassesBy, Leaves, level_driven}
use Rattle.board_devices.specs.Steps.{value_read, after_read, after_write, devices_accessed, driven, fitted_accessed}
use Rattle.ata_pio.specs.declared.ata.AtaOpen.{AtaOpen}
use Rattle.board_base.specs.declared.target.Dev.TheVariants.{Clock}
use Rattle.device_spec.specs.Clock.{interrupt_line, power_on as clock_at_power_on}
use Rattle.device_spec.specs.Ata.Steps.{after_reset as disk_after_reset}

-- ---- the pair after an entry

abbrev pub NotPulses : Event → Type 0
NotPulses (Pulses count) = ⊥
NotPulses _ = Unit {0}

-- the lines reach the pair as they stand after a history
abbrev pub lined : Setup → List Entry → Pair → Pair
lined setup history pair = pair_after_lines pair (levels_of setup history) (elcr_of history)

-- they reach what the event, or the reset, made of the pair
pair_lined : (setup : Setup) (history : List Entry) (entry : Entry) → NotPulses entry.event →
    pair_of setup (entry ∷ history)
    ≡ lined setup (entry ∷ history) (pair_reset_or_after setup entry history (pair_of setup history))
unfolding pair_of
pair_lined setup history entry not = grind (arith, nat_tests)

-- the pair is no part of what the others are
pub with_pair : (setup : Setup) (history : List Entry) (devices : DevicesValue) (pair : Pair) →
    AreAfter setup history devices → AreAfter setup history (record devices { pair = pair })
with_pair setup history devices pair is = grind (arith, nat_tests)

-- ---- levels from outside

-- a place is the one that is set, or another
ruleset set_levels = (cases_eq, eq-eqb, get_or-set_same, ne_eqb, get_or-set_other)

-- a level that was set at one place
level_set : (levels : List Bool) (at n : ℕ) (on : Bool) → at < length levels →
    slice_index_or (slice_set levels at on) n false
    ≡ unwrap_or (if at == n then Some on else None) (slice_index_or levels n false)
level_set levels at n on below = grind (arith, nat_tests, common_steps, set_levels)

-- the lines that can be set are below 16
free_low : (line : ℕ) → is_free_line line ≡ true → line < 16
free_low line free = grind (arith, nat_tests)

-- a free line that was set, where the others stand so
free_set : (irqs : List Bool) (at line : ℕ) (on was : Bool) → is_free_line at ≡ true → length irqs ≡ 16 → at < 16 →
    slice_index_or irqs line false ≡ (is_free_line line && was) →
    slice_index_or (slice_set irqs at on) line false
    ≡ (is_free_line line && unwrap_or (if at == line then Some on else None) was)
free_set irqs at line on was free size low is = grind (arith, nat_tests, common_steps, set_levels)

abbrev wires_after : Event → List Bool → List Bool
wires_after (Wire dev on) wires = slice_set wires dev on
wires_after _ wires = wires

abbrev irqs_after : Event → List Bool → List Bool
irqs_after (Line irq on) irqs = slice_set irqs irq on
irqs_after _ irqs = irqs

-- there is a place for the level that an event sets
abbrev pub HasRoom : Event → DevicesValue → Type 0
HasRoom (Wire dev on) devices = dev < length devices.wires
HasRoom (Line irq on) devices = (is_free_line irq ≡ true) × (length devices.irqs ≡ 16)
HasRoom _ devices = Unit {0}

-- ---- the disk, where one is fitted

abbrev fitted_after : Event → Reply → Option Disk → Option Disk
fitted_after (Port access) reply disk = fitted_accessed (device_reached reply) access disk
fitted_after (BadSector sector) reply disk = option_map (λ disk. after_bad sector disk) disk
fitted_after _ reply disk = disk

-- ---- the devices after an entry that is no hard reset

-- each as the event makes it, before the lines reach the pair
abbrev pub devices_after : Event → Reply → DevicesValue → DevicesValue
devices_after event reply devices = record {
  pair = pair_after event reply devices.pair;
  timer = timer_after event reply devices.timer;
  clock = clock_after event reply devices.clock;
  disk = fitted_after event reply devices.disk;
  triggers = triggers_after event reply devices.triggers;
  plain = plain_after event reply devices.plain;
  wires = wires_after event devices.wires;
  irqs = irqs_after event devices.irqs;
}

module _ (setup : Setup) (history : List Entry) (entry : Entry) (soft : is_hard_reset history entry.event ≡ false) where
  -- what the entry leaves of all of them
  others_soft : (devices : DevicesValue) → HasRoom entry.event devices → AreAfter setup history devices →
      AreAfter setup (entry ∷ history) (devices_after entry.event entry.reply devices)
  unfolding timer_of clock_of triggers_of plain_of wire_of irq_of disk_with
  others_soft devices room are = record {
    timer = rw soft (ap (λ t. timer_after entry.event entry.reply t) are.timer);
    clock = rw soft (ap (λ t. clock_after entry.event entry.reply t) are.clock);
    disk =
        (grind (arith, nat_tests))
        ∙ (ap (λ (d : Option Disk). option_map (λ disk. disk_after entry.event entry.reply disk) d) are.disk
        ∙ (grind (arith, nat_tests)));
    triggers = rw soft (ap (λ t. triggers_after entry.event entry.reply t) are.triggers);
    plain = rw soft (ap (λ t. plain_after entry.event entry.reply t) are.plain);
    wires = λ n low high. grind (arith, nat_tests, level_set, are.wires n low high);
    irqs = λ line below. grind (arith, nat_tests, free_set, free_low, are.irqs line below);
  }

  pub pair_soft : NotPulses entry.event → pair_of setup (entry ∷ history) ≡ lined setup (entry ∷ history)
      (pair_after entry.event entry.reply (pair_of setup history))
  pair_soft not = grind (arith, nat_tests, common_steps, pair_reset_or_after, pair_of, pair_after, pair_lined)

-- ---- an entry that is this event, and no hard reset

-- devices whose lines then reach the pair are those of a history whose pair is made so
pub settled_as : (setup : Setup) (history : List Entry) (before after : DevicesValue) → AreAfter setup history before →
    after ≡ record before { pair = after.pair } → after.pair ≡ lined setup history before.pair →
    pair_of setup history ≡ lined setup history before.pair → AreDevicesOf setup history after
settled_as setup history before after are others seen pair = grind (arith, nat_tests)

pair_asked : (setup : Setup) {history : List Entry} {entry : Entry} {event : Event} → Asks history entry event →
    NotPulses event → pair_of setup (entry ∷ history) ≡ lined setup (entry ∷ history)
    (pair_after event entry.reply (pair_of setup history))
pair_asked setup asks not = grind (arith, nat_tests, common_steps, pair_of, pair_after, pair_soft)

module _ {setup : Setup} {history : List Entry} {entry : Entry} {event : Event} (asks : Asks history entry event) where
  pub others_asked : (devices : DevicesValue) → HasRoom event devices → AreAfter setup history devices →
      AreAfter setup (entry ∷ history) (devices_after event entry.reply devices)
  others_asked devices room are =
      subst (λ (e : Event). HasRoom e devices → AreAfter setup (entry ∷ history) (devices_after e entry.reply devices))
      asks.event_is (λ room. others_soft setup history entry asks.soft devices room are) room

  -- the lines then reach the pair: the devices are those of the history with the entry
  pub lined_as : {old between after : DevicesValue} {routes : List ℕ} → AreDevicesOf setup history old →
      NotPulses event → HasRoom event old → between ≡ devices_after event entry.reply old →
      after ≡ record between { pair = after.pair } →
      ((setup : Setup) (history : List Entry) → AreAfter setup history between → AreRoutesOf setup history routes →
      after.pair ≡ lined setup history between.pair) →
      AreRoutesOf setup (entry ∷ history) routes → AreDevicesOf setup (entry ∷ history) after
  lined_as first second third fourth fifth sixth seventh =
      grind (arith, nat_tests, common_steps, pair_asked, others_asked, settled_as)

  -- no line can have moved, so that the lines do not reach the pair
  pub stood_as : pair_of setup (entry ∷ history) ≡ pair_after event entry.reply (pair_of setup history) →
      {old after : DevicesValue} → AreDevicesOf setup history old → HasRoom event old →
      after ≡ devices_after event entry.reply old → AreDevicesOf setup (entry ∷ history) after
  stood_as stands {old} {after} are room made =
      grind (arith, nat_tests, common_steps, others_asked, room, pair_after)

-- ---- an access at a port of a device

module _ {history : List Entry} {entry : Entry} {dev : Dev} {access : PortAccess} where
  pub port_asked : ReachesDevice history entry dev access → Asks history entry (Port access)
  port_asked reaches = record { event_is = reaches.event; soft = reaches.soft }

  pub reached_as : ReachesDevice history entry dev access → (devices : DevicesValue) →
      devices_accessed (Some dev) access devices ≡ devices_after (Port access) entry.reply devices
  unfolding devices_accessed
  reached_as reaches devices = rw reaches.device refl

  pub read_as : ReachesDevice history entry dev access → access.write ≡ false → (devices : DevicesValue) →
      after_read dev access devices ≡ devices_after (Port access) entry.reply devices
  unfolding after_read
  read_as reaches reads devices =
      ap (λ (write : Bool). devices_accessed (Some dev) (record access { write = write }) devices) (sym reads)
      ∙ reached_as reaches devices

  pub write_as : ReachesDevice history entry dev access → access.write ≡ true → (devices : DevicesValue) →
      after_write dev access devices ≡ devices_after (Port access) entry.reply devices
  unfolding after_write
  write_as reaches writes devices =
      ap (λ (write : Bool). devices_accessed (Some dev) (record access { write = write }) devices) (sym writes)
      ∙ reached_as reaches devices

-- what a read gives is the answer of the history
pub value_at : (setup : Setup) (history : List Entry) (dev : Dev) (access : PortAccess) (devices : DevicesValue) →
    AreDevicesOf setup history devices →
    value_read dev access devices ≡ device_value setup history dev access.port access.width
unfolding value_read device_value
value_at setup history dev access devices are = grind (arith, nat_tests)

-- ---- the lines

-- line k stands at place k
line_numbered : (k : ℕ) → k < 16 → get_or all_lines k 0 ≡ k
line_numbered k below = grind (arith, nat_tests)

level_numbered : (level : ℕ → Bool) (k : ℕ) → k < 16 → slice_index_or (map level all_lines) k false ≡ level k
level_numbered level k low = get_or-map level all_lines k 0 false low ∙ ap level (line_numbered k low)

-- sixteen levels that are those of a history are its list
pub same_levels : (setup : Setup) (history : List Entry) (levels : List Bool) → length levels ≡ 16 →
    ((k : ℕ) → k < 16 → slice_index_or levels k false ≡ level_with setup history (timer_of history) k) →
    levels ≡ levels_of setup history
unfolding levels_with
same_levels setup history levels size each =
    let level = level_with setup history (timer_of history) in
    ext_get_or false levels (map level all_lines) (size ∙ sym (length-map all_lines level))
    (λ k below.
    let low : k < 16 = subst (λ (n : ℕ). k < n) size below in
    each k low ∙ sym (level_numbered level k low))

-- the levels set from outside, with those of the timer, the clock and the disk, are what drives each line itself
pub own_levels : (setup : Setup) (history : List Entry) (irqs : List Bool) (timer clock disk : Bool) (line : ℕ) →
    length irqs ≡ 16 →
    timer ≡ out_of 0 (timer_of history) → clock ≡ interrupt_line (clock_of history) →
    disk ≡ option_map_or (λ disk. is_interrupt disk.drive) (disk_of setup history) false →
    AreIrqsOf history irqs → line < 16 →
    slice_index_or (slice_set (slice_set (slice_set irqs 0 timer) 8 clock) 14 disk) line false ≡ own_level setup history
    (timer_of history) line
own_levels setup history irqs timer clock disk line size timer_is clock_is disk_is are below =
    grind (arith, nat_tests, common_steps, slice_set, length-set, line, set_levels)

-- ---- the devices that a history leaves

abbrev pub devices_of : Setup → List Entry → DevicesValue
devices_of setup history = record {
  pair = pair_of setup history;
  timer = timer_of history;
  clock = clock_of history;
  disk = disk_of setup history;
  triggers = triggers_of history;
  plain = plain_of history;
  wires = map (wire_of history) all_lines;
  irqs = map (λ line. is_free_line line && irq_of history line) all_lines;
}

pub they_are : (setup : Setup) (history : List Entry) → AreAfter setup history (devices_of setup history)
they_are setup history = grind (arith, nat_tests)

-- the level that a device drives is that after the history
pub driven_is : (setup : Setup) (history : List Entry) (devices : DevicesValue) → AreAfter setup history devices →
    (dev : Dev) → driven dev devices ≡ level_driven dev setup history
driven_is setup history devices are dev = grind (arith, nat_tests)

-- ---- an entry after which the lines stand

-- an event that sets no level from outside, and is no pulses
pub record SetsNoLevel (event : Event) : Type 0 where
  pub wire : (dev : ℕ) → wire_set dev event ≡ None
  pub line : (line : ℕ) → line_set line event ≡ None
  pub room : (devices : DevicesValue) → HasRoom event devices
  pub still : NotPulses event

-- each device drives its line as before the entry, and the same lines are level triggered
pub record Stays (setup : Setup) (history : List Entry) (entry : Entry) : Type 0 where
  pub level : (dev : Dev) → level_driven dev setup (entry ∷ history) ≡ level_driven dev setup history
  pub triggers : triggers_of (entry ∷ history) ≡ triggers_of history

any-same : (p q : ℕ → Bool) (xs : List ℕ) → ((x : ℕ) → p x ≡ q x) → list_any p xs ≡ list_any q xs
any-same p q [] same = refl
any-same p q (x ∷ xs) same =
    ap (λ (b : Bool). b || list_any p xs) (same x) ∙ ap (λ (b : Bool). q x || b) (any-same p q xs same)

pub routes_stand : (setup : Setup) (history : List Entry) (entry : Entry) → is_hard_reset history entry.event ≡ false →
    config_store setup (config_address history) entry.event ≡ None →
    routes_of setup (entry ∷ history) ≡ routes_of setup history
unfolding byte_of
routes_stand setup history entry soft none = rw (soft, none) refl

module _ (setup : Setup) (history : List Entry) (entry : Entry) (sets : SetsNoLevel entry.event) where
  wire_stays : (dev : ℕ) → wire_of (entry ∷ history) dev ≡ wire_of history dev
  unfolding wire_of
  wire_stays dev = rw (sets.wire dev) refl

  level_stands : Stays setup history entry → routes_of setup (entry ∷ history) ≡ routes_of setup history → (line : ℕ) →
      level_with setup (entry ∷ history) (timer_of (entry ∷ history)) line
      ≡ level_with setup history (timer_of history) line
  unfolding irq_of
  level_stands stays routes line =
      let timer = stays.level Pit in
      let clock = stays.level Clock in
      let disk = stays.level Ata in
      grind (arith, nat_tests, common_steps, map-same, any-same, wire_stays, sets.line line, timer, clock, disk)

  -- the lines reach the pair as they did before it
  pub lines_stand : Stays setup history entry → routes_of setup (entry ∷ history) ≡ routes_of setup history →
      (pair : Pair) → lined setup (entry ∷ history) pair ≡ lined setup history pair
  unfolding levels_with
  lines_stand stays routes pair =
      ap (λ (levels : List Bool). pair_after_lines pair levels (elcr_of (entry ∷ history)))
      (map-same _ _ all_lines (level_stands stays routes))
      ∙ ap (λ (elcr : ℕ). pair_after_lines pair (levels_of setup history) elcr)
      (elcr-same (entry ∷ history) history stays.triggers)

-- ---- events that ask nothing of the devices

pub passing : (event : Event) (reached : Option Dev) → PassesBy event reached → SetsNoLevel event
passing event reached by = grind (arith, nat_tests)

module _ {history : List Entry} {entry : Entry} (leaves : Leaves history entry) where
  pub left_asks : Asks history entry entry.event
  left_asks = record { event_is = refl; soft = leaves.soft }

  pub left_levels : SetsNoLevel entry.event
  left_levels = passing entry.event (device_reached entry.reply) leaves.passes

  pub left_as : (devices : DevicesValue) → devices ≡ devices_after entry.event entry.reply devices
  unfolding devices_accessed
  left_as devices = grind (arith, nat_tests, common_steps)

-- an event that passes the devices by leaves them
pub leaves_devices : LeavesDevices
leaves_devices setup history entry devices are leaves routes =
    let asks = left_asks leaves in
    let sets = left_levels leaves in
    let after : AreAfter setup (entry ∷ history) devices =
    rw (left_as leaves devices) (others_asked asks devices (sets.room devices) are.others) in
    let made : pair_after entry.event entry.reply devices.pair ≡ devices.pair =
    ap (λ (d : DevicesValue). d.pair) (sym (left_as leaves devices)) in
    let asked = pair_asked setup asks sets.still in
    let stands =
    lines_stand setup history entry sets (grind (arith, nat_tests, are.others)) routes
    (pair_after entry.event entry.reply (pair_of setup history)) in
    let seen = pair_has_seen same-levels setup history in
    record { others = after; pair = cc (asked, stands, are.pair, made, seen) }

-- ---- a hard reset

module _ (setup : Setup) (history : List Entry) (entry : Entry) (hard : is_hard_reset history entry.event ≡ true) where
  -- an event that resets is an access at a port, which sets no level
  no_level : SetsNoLevel entry.event
  no_level = grind (arith, nat_tests)

  pub reset_after : (devices after : DevicesValue) → AreAfter setup history devices →
      after ≡ record devices {
        timer = timer_at_reset;
        clock = clock_after_reset devices.clock;
        disk = option_map (λ disk. disk_after_reset disk) devices.disk;
        triggers = triggers_at_reset;
        plain = plain_at_reset;
      } → AreAfter setup (entry ∷ history) after
  unfolding timer_of clock_of triggers_of plain_of irq_of disk_with
  reset_after devices after are is = grind (arith, nat_tests, common_steps, clock_after_reset, wire_stays, no_level)

  pub reset_pair : pair_of setup (entry ∷ history)
      ≡ lined setup (entry ∷ history) (pair_at_reset (levels_of setup (entry ∷ history)))
  reset_pair =
      let chosen : pair_reset_or_after setup entry history (pair_of setup history)
      ≡ pair_at_reset (levels_of setup (entry ∷ history)) = rw hard refl in
      pair_lined setup history entry no_level.still ∙ ap (lined setup (entry ∷ history)) chosen

-- ---- power-on

pub at_power_on : (setup : Setup) (devices : DevicesValue) → devices.timer ≡ timer_at_reset →
    devices.clock ≡ clock_at_power_on → devices.triggers ≡ triggers_at_reset → devices.plain ≡ plain_at_reset →
    devices.disk ≡ disk_of setup [] → devices.wires ≡ replicate 16 false → devices.irqs ≡ replicate 16 false →
    devices.pair ≡ pair_at_reset levels_at_power_on → AreDevicesOf setup [] devices
unfolding timer_of clock_of triggers_of plain_of wire_of irq_of pair_of
at_power_on setup devices timer clock triggers plain disk wires irqs pair = grind (arith, nat_tests)

-- ---- pulses

-- with another state of the timer line 0 alone has another level
pub levels_pulsed : (setup : Setup) (history : List Entry) (timer later : PitState) →
    levels_with setup history later ≡ slice_set (levels_with setup history timer) 0 (out_of 0 later)
unfolding levels_with
levels_pulsed setup history timer later = grind (arith, nat_tests, common_steps, reserved-rest, or-false)

-- ---- the disk

whole_sectors : (size : ℕ) → is_disk_length size ≡ true → IsDiskSize size
whole_sectors size is =
    let whole : size % 512 ≡ 0 = grind (arith, nat_tests) in
    let some : 0 < size = grind (arith, nat_tests) in
    let few : size ≤ 512 * 65536 = grind (arith, nat_tests) in
    (size / 512, omega (arith, whole, some), omega (arith, few), omega (arith, whole))

counted_sectors : (size sectors : ℕ) → 1 ≤ sectors → sectors ≤ 0x1_0000 → size ≡ sectors * 512 →
    is_disk_length size ≡ true
counted_sectors size sectors some few is = grind (arith, nat_tests)

-- bytes that a disk can have
pub disk_length : (bytes : List ℕ) → IsDisk (Some bytes) → is_disk_length (length bytes) ≡ true
disk_length bytes is = counted_sectors (length bytes) is.0 is.1 is.2 is.3

-- a length is refused where it is not that of a disk
pub refused_length : (size : ℕ) → is_disk_length size ≡ false → ¬ IsDiskSize size
refused_length size refused disk =
    let is : is_disk_length size ≡ true = counted_sectors size disk.0 disk.1 disk.2 disk.3 in cc

pub length_refused : (size : ℕ) → ¬ IsDiskSize size → is_disk_length size ≡ false
length_refused size none = grind (arith, nat_tests, cases_Bool, whole_sectors)

pub opened_disk : (setup : Setup) (bytes : List ℕ) (disk : Disk) → setup.disk ≡ Some bytes →
    disk ≡ disk_at_power_on bytes → Some disk ≡ disk_of setup []
unfolding disk_with
opened_disk setup bytes disk fitted is = rw (fitted, is) refl

-- a refusal names the length exactly where it is not that of a disk
pub fault_named : (result : Result Disk AtaOpen) (fault : AtaOpen) (size : ℕ) → (result ≡ Err AtaOpen.BadLength)
    ↔ (is_disk_length size ≡ false) → result ≡ Err fault →
    (fault ≡ AtaOpen.BadLength → ¬ IsDiskSize size) × (¬ IsDiskSize size → fault ≡ AtaOpen.BadLength)
fault_named result fault size exact is = grind (arith, nat_tests, common_steps, refused_length, length_refused)
