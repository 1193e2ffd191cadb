-- Events that move no line: the lines reach the pair as it saw them, and leave it.
use Rattle.board_prelude.proofs.{common_steps, and-true, and-false, nat_tests, Levels, has, levels_of_byte}
use Rattle.board_prelude.proofs.{levels_where-same, Chip, chip_after_inputs, Pair, settled, master_inputs}
use Rattle.board_prelude.proofs.{pair_after_lines, same-levels, settled-asks, settled-quiet, PortAccess, Dev, System}
use Rattle.board_prelude.proofs.{bytes_of, PitState, out_of, set_gate2, port_read, Event, Port, Ack, Entry, Setup}
use Rattle.board_prelude.proofs.{is_hard_reset, is_config_port, timer_accessed, config_store, levels_of, elcr_of}
use Rattle.board_prelude.proofs.{pair_accessed, pair_after, pair_of, pair_has_seen}
use Rattle.std.proofs.Common.{◌≡◌, ℕ, ◌/◌, ◌%◌, ◌&&◌, Bool, true, false, List, ◌∷◌, Option, Some, None, length, take}
use Rattle.std.proofs.Common.{drop, refl, sym, ap, subst, ◌∙◌, arith}
use Rattle.device_spec.specs.Pit.{read, read_live}
use Rattle.device_spec.proofs.Levels.{levels_where-has}
use Rattle.board_spec.specs.Registers.{config_address}
use Rattle.board_devices.specs.Devices.{DevicesValue, AreAfter, AreDevicesOf}
use Rattle.board_devices.specs.Steps.{driven, devices_accessed}
use Rattle.board_devices.specs.Events.{level_driven, sets_triggers, is_chip_port, moves_lines, ReachesDevice}
use Rattle.board_devices.specs.Laws.{AccessLeavesLines, StillLeavesLines, AcknowledgeLeavesLines}
use Rattle.board_devices.proofs.ChipSteps.{Keeps, eight, same_chips, event_keeps}
use Rattle.board_devices.proofs.DeviceLemmas.{stood_as, pair_soft, with_pair, SetsNoLevel, Stays, passing, lines_stand}
use Rattle.board_devices.proofs.DeviceLemmas.{routes_stand, others_asked, port_asked, reached_as, devices_after}
use Rattle.board_devices.proofs.DeviceLemmas.{devices_of, they_are, driven_is}

-- ---- a chip whose inputs stand

-- a chip whose inputs, and which of them are level triggered, were last given so
pub record Holds (inputs triggers : Levels) (chip : Chip) : Type 0 where
  pub inputs_are : chip.inputs ≡ inputs
  pub triggers_are : chip.triggers ≡ triggers
  pub whole : length chip.latches ≡ 8

-- given once more they change nothing
given_again : (chip : Chip) (inputs triggers : Levels) → Holds inputs triggers chip →
    chip_after_inputs chip inputs triggers ≡ chip
given_again chip inputs triggers holds =
    rw (← holds.inputs_are, ← holds.triggers_are) (ap (λ (latches : Levels). record chip { latches = latches })
    (levels_where-same _ (λ l. has chip.latches l) (λ l small. grind (arith, nat_tests)) ∙ levels_where-has chip.latches
    holds.whole))

-- ---- a pair whose lines stand

pub record Sees (levels : List Bool) (elcr : ℕ) (pair : Pair) : Type 0 where
  pub master : Holds (master_inputs (take 8 levels)) (master_inputs (levels_of_byte (elcr % 256))) pair.master
  pub slave : Holds (drop 8 levels) (levels_of_byte (elcr / 256)) pair.slave

module _ (levels : List Bool) (elcr : ℕ) where
  pub lines_seen : (pair : Pair) → Sees levels elcr (pair_after_lines pair levels elcr)
  lines_seen pair = grind (arith, nat_tests, common_steps, eight, settled-asks, settled-quiet)

  -- the lines change nothing of a pair that sees them so, once its slave is heard
  stands : (pair : Pair) → Sees levels elcr pair → pair_after_lines (settled pair) levels elcr ≡ settled pair
  stands pair sees =
      let once : pair_after_lines pair levels elcr ≡ settled pair =
      ap settled (same_chips _ pair.master _ pair.slave (given_again pair.master _ _ sees.master)
      (given_again pair.slave _ _ sees.slave)) in
      ap (λ (p : Pair). pair_after_lines p levels elcr) (sym once) ∙ (same-levels pair levels elcr ∙ once)

  -- ---- what an event itself makes of the pair

  -- the lines, which the pair saw as they are
  abbrev Again : Pair → Type 0
  Again pair = pair_after_lines pair levels elcr ≡ pair

  steps_again : (old new : Pair) → Keeps old.master new.master → Keeps old.slave new.slave → Again old →
      Again (settled new)
  steps_again old new master slave seen =
      let sees = subst (Sees levels elcr) seen (lines_seen old) in
      stands new (record {
        master = grind (arith, nat_tests, sees.master);
        slave = grind (arith, nat_tests, sees.slave);
      })

-- ---- the pair after an event that moves no line

-- it is as the event itself made it
pair_stands : (setup : Setup) (history : List Entry) (entry : Entry) → is_hard_reset history entry.event ≡ false →
    SetsNoLevel entry.event → config_store setup (config_address history) entry.event ≡ None →
    Stays setup history entry →
    pair_of setup (entry ∷ history) ≡ pair_after entry.event entry.reply (pair_of setup history)
pair_stands setup history entry soft sets none stays =
    pair_soft setup history entry soft sets.still
    ∙ (lines_stand setup history entry sets stays (routes_stand setup history entry soft none)
    (pair_after entry.event entry.reply (pair_of setup history))
    ∙ event_keeps (Again (levels_of setup history) (elcr_of history))
    (steps_again (levels_of setup history) (elcr_of history)) entry.event entry.reply (pair_of setup history)
    (pair_has_seen same-levels setup history))

-- ---- accesses

system_out : (access : PortAccess) (t : PitState) → out_of 0 (timer_accessed (Some System) access t) ≡ out_of 0 t
unfolding set_gate2 out_of
system_out access t = grind (arith, nat_tests, common_steps)

triggers_none : (dev : Dev) (write : Bool) → moves_lines dev write ≡ false → (write && sets_triggers dev) ≡ false
triggers_none dev write none = grind (arith, nat_tests, and-true, and-false)

no_store : (setup : Setup) (address : ℕ) (access : PortAccess) → is_config_port access.port ≡ false →
    config_store setup address (Port access) ≡ None
no_store setup address access other = rw (other, and-false access.write) refl

module _ (setup : Setup) (history : List Entry) (entry : Entry) (dev : Dev) (access : PortAccess)
    (reaches : ReachesDevice history entry dev access) where
  abbrev old : DevicesValue
  old = devices_of setup history

  abbrev next : DevicesValue
  next = devices_accessed (Some dev) access old

  were : AreAfter setup history old
  were = they_are setup history

  are : AreAfter setup (entry ∷ history) next
  are = rw (reached_as reaches old) (others_asked (port_asked reaches) old tt were)

  -- an access leaves the level that every other device drives
  stays_by : (access.write && sets_triggers dev) ≡ false →
      level_driven dev setup (entry ∷ history) ≡ level_driven dev setup history → Stays setup history entry
  unfolding devices_accessed
  stays_by none level =
      let still : driven dev next ≡ driven dev old =
      driven_is setup (entry ∷ history) next are dev ∙ (level ∙ sym (driven_is setup history old were dev)) in
      record {
        level = λ other.
            sym (driven_is setup (entry ∷ history) next are other)
            ∙ ((grind (arith, nat_tests, system_out)) ∙ driven_is setup history old were other);
        triggers = sym are.triggers ∙ (grind (arith, nat_tests, and-true));
      }

  -- one that can move no line leaves the level of its own device
  own_level_stands : moves_lines dev access.write ≡ false →
      level_driven dev setup (entry ∷ history) ≡ level_driven dev setup history
  unfolding devices_accessed read read_live port_read out_of
  own_level_stands none = grind (arith, nat_tests, common_steps, driven_is, are, were)

  -- a port of a device is none of configuration data, so that no route moves
  still_stands : is_chip_port dev access.port (bytes_of access.width) ≡ true →
      (access.write && sets_triggers dev) ≡ false →
      level_driven dev setup (entry ∷ history) ≡ level_driven dev setup history →
      pair_of setup (entry ∷ history) ≡ pair_after (Port access) entry.reply (pair_of setup history)
  still_stands port none level =
      let sets : SetsNoLevel entry.event = rw reaches.event (passing (Port access) None refl) in
      let none_there : is_config_port access.port ≡ false =
      grind (arith, nat_tests) in
      let store : config_store setup (config_address history) entry.event ≡ None =
      rw reaches.event (no_store setup (config_address history) access none_there) in
      pair_stands setup history entry reaches.soft sets store (stays_by none level)
      ∙ ap (λ (e : Event). pair_after e entry.reply (pair_of setup history)) reaches.event

pub still_leaves_lines : StillLeavesLines
still_leaves_lines setup history entry dev access port reaches none level =
    still_stands setup history entry dev access reaches port none level
    ∙ ap (λ (reached : Option Dev). pair_accessed reached access (pair_of setup history)) reaches.device

pub access_leaves_lines : AccessLeavesLines
access_leaves_lines setup history entry dev access port reaches none =
    grind (arith, nat_tests, common_steps, still_leaves_lines, triggers_none, own_level_stands)

-- the devices after an access that moved no line
pub still_as : {setup : Setup} {history : List Entry} {entry : Entry} {dev : Dev} {access : PortAccess}
    {old after : DevicesValue} → ReachesDevice history entry dev access → AreDevicesOf setup history old →
    is_chip_port dev access.port (bytes_of access.width) ≡ true → (access.write && sets_triggers dev) ≡ false →
    after ≡ devices_after (Port access) entry.reply old → driven dev after ≡ driven dev old →
    AreDevicesOf setup (entry ∷ history) after
still_as {setup} {history} {entry} {dev} {access} {old} {after} reaches is port none made same =
    let are : AreAfter setup (entry ∷ history) after =
    rw made (others_asked (port_asked reaches) old tt is.others) in
    let level : level_driven dev setup (entry ∷ history) ≡ level_driven dev setup history =
    sym (driven_is setup (entry ∷ history) after are dev) ∙ (same ∙ driven_is setup history old is.others dev) in
    stood_as (port_asked reaches) (still_stands setup history entry dev access reaches port none level) is tt made

-- ---- acknowledges

pub acknowledge_leaves_lines : AcknowledgeLeavesLines
acknowledge_leaves_lines setup history entry asks =
    let old = devices_of setup history in
    let were = they_are setup history in
    let are : AreAfter setup (entry ∷ history) old =
    with_pair setup (entry ∷ history) (devices_after Ack entry.reply old) old.pair
    (others_asked asks old tt were) in
    let sets : SetsNoLevel entry.event =
    rw asks.event_is (record { wire = λ n. refl; line = λ n. refl; room = λ d. tt; still = tt }) in
    pair_stands setup history entry asks.soft sets (rw asks.event_is refl) (grind (arith, nat_tests))
    ∙ ap (λ (e : Event). pair_after e entry.reply (pair_of setup history)) asks.event_is
