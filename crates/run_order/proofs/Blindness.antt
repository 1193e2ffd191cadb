-- No answer depends on the looks and the numbers before it: each definition over histories gives the same without them.
use Rattle.std.proofs.Common.{◌≡◌, ℕ, zero, suc, ◌==◌, nat_lt, Bool, false, List, [], ◌∷◌, refl, sym, ◌∙◌, ap, arith}
use Rattle.std.proofs.Common.{Some, None, if◌then◌else◌}
use Rattle.board_prelude.proofs.{Event, Memory, Wide, Port, Ack, Reply, Bus, Saw, nat_tests, Entry, map-same}
use Rattle.board_prelude.proofs.{levels-same, disk_of-same, elcr-same}
use Rattle.board_base.specs.declared.access.Kind.{Kind}
use Rattle.board_base.specs.declared.access.Width.{Width}
use Rattle.board_base.specs.declared.target.Reg.{Reg}
use Rattle.board_base.specs.declared.target.Target.{Target}
use Rattle.board_base.specs.declared.target.Target.TheVariants.{Rom, Card, Device, Config, Abort}
use Rattle.board_base.specs.declared.target.Dev.{Dev}
use Rattle.device_spec.specs.Pit.{PitState, out_of, pulses}
use Rattle.device_spec.specs.Pair.{Pair, answer_of}
use Rattle.board_spec.specs.Setup.{Setup, installed, card_at, kept_size}
use Rattle.board_spec.specs.MapWrites.{version_of, map_change_of, map_writes_of}
use Rattle.board_spec.specs.Bits.{wide}
use Rattle.board_spec.specs.RegisterNames.{pirq}
use Rattle.board_spec.specs.Registers.{reset_control, config_address, register_change, byte_of}
use Rattle.board_spec.specs.Stored.{Cell, DramCell, CardCell, entry_put, stored_of, dram_byte, expansion_byte}
use Rattle.board_spec.specs.Stored.{card_byte}
use Rattle.board_spec.specs.WideParts.{parts_of}
use Rattle.board_spec.specs.Devices.{wire_of, irq_of, triggers_of, plain_of, timer_of, clock_of, disk_with}
use Rattle.board_spec.specs.Interrupts.{pirqs, levels_with, elcr_of, pair_pulsed, pair_stepped, pair_of, device_value}
use Rattle.board_spec.specs.Interrupts.{who_answered}
use Rattle.board_spec.specs.DeviceLaws.{SameDevices, MemoryLeavesDevices}
use Rattle.board_spec.specs.Answer.{IsAnswer, memory_answer, part_answer, wide_value, port_answer, port_value, value_at}
use Rattle.board_spec.specs.declared.event.Event.TheVariants.{Look as LookAt}
use Rattle.board_spec.specs.declared.event.Reply.TheVariants.{Parts}
use Rattle.run_order.specs.Placing.{is_look}
use Rattle.run_order.specs.PhaseRun.{bare}

-- ---- an event that is a look

abbrev IsLook : Event → Type 0
IsLook event = (kind : Kind) × (addr : ℕ) × (smm : Bool) × (event ≡ LookAt kind addr smm)

look_put : (kind : Kind) (addr : ℕ) (smm : Bool) (reply : Reply) (cell : Cell)
    → entry_put (LookAt kind addr smm) reply cell ≡ None
look_put kind addr smm reply cell = grind arith

-- ---- one definition after another

abbrev plain : Entry → Entry
plain entry = record entry { seq = 0 }

bare_entry : (entry : Entry) (before : List Entry) → is_look entry.event ≡ false
    → bare (entry ∷ before) ≡ plain entry ∷ bare before
unfolding bare
bare_entry entry before not = rw not refl

-- what a look leaves alone, and what an entry's number does not change, is the same without both
along : {X : Type 0} (f : List Entry → X) →
    ((entry : Entry) (before : List Entry) → IsLook entry.event → f (entry ∷ before) ≡ f before) →
    ((entry : Entry) (before : List Entry) → is_look entry.event ≡ false → f before ≡ f (bare before)
    → f (entry ∷ before) ≡ f (plain entry ∷ bare before)) → (h : List Entry) → f h ≡ f (bare h)
unfolding bare
along f looks steps [] = grind (arith, nat_tests)
along f looks steps (entry ∷ before) = grind (arith, nat_tests, along f looks steps before)

control_bare : (h : List Entry) → reset_control h ≡ reset_control (bare h)
unfolding reset_control
control_bare = along reset_control (λ e h is. rw is.3 refl) (λ e h _ same. cc)

address_bare : (h : List Entry) → config_address h ≡ config_address (bare h)
unfolding config_address
address_bare = along config_address (λ e h is. rw is.3 refl) (λ e h _ same. cc (control_bare h))

register_change_bare : (setup : Setup) (h : List Entry) (event : Event)
    → register_change setup h event ≡ register_change setup (bare h) event
register_change_bare setup h event = cc (control_bare h, address_bare h)

byte_bare : (setup : Setup) (reg : Reg) (h : List Entry) → byte_of setup h reg ≡ byte_of setup (bare h) reg
unfolding byte_of
byte_bare setup reg = along (λ h. byte_of setup h reg) (λ e h is. rw is.3 refl)
    (λ e h _ same. cc (register_change_bare setup h e.event))

writes_bare : (setup : Setup) (h : List Entry) → map_writes_of setup h ≡ map_writes_of setup (bare h)
unfolding map_writes_of map_change_of
writes_bare setup = along (map_writes_of setup) (λ e h is. rw is.3 refl)
    (λ e h _ same. cc (register_change_bare setup h e.event))

pub version_same : (setup : Setup) (final before : List Entry) → bare final ≡ bare before
    → version_of setup final ≡ version_of setup before
version_same setup final before same = grind (arith, writes_bare setup final, writes_bare setup before)

-- ---- the devices

module _ (leaves : MemoryLeavesDevices) (setup : Setup) where
  left : (entry : Entry) (before : List Entry) → IsLook entry.event → SameDevices setup before (entry ∷ before)
  left entry before is = leaves setup before entry (rw is.3 tt)

  timer_bare : (h : List Entry) → timer_of h ≡ timer_of (bare h)
  unfolding timer_of
  timer_bare = along timer_of (λ e h is. (left e h is).timer) (λ e h _ same. cc (control_bare h))

  plain_bare : (h : List Entry) → plain_of h ≡ plain_of (bare h)
  unfolding plain_of
  plain_bare = along plain_of (λ e h is. (left e h is).plain) (λ e h _ same. cc (control_bare h))

  triggers_bare : (h : List Entry) → triggers_of h ≡ triggers_of (bare h)
  unfolding triggers_of
  triggers_bare = along triggers_of (λ e h is. (left e h is).triggers) (λ e h _ same. cc (control_bare h))

  clock_bare : (h : List Entry) → clock_of h ≡ clock_of (bare h)
  unfolding clock_of
  clock_bare = along clock_of (λ e h is. (left e h is).clock) (λ e h _ same. cc (control_bare h))

  disk_bare : (bytes : List ℕ) (h : List Entry) → disk_with bytes h ≡ disk_with bytes (bare h)
  unfolding disk_with
  disk_bare bytes = along (disk_with bytes) (λ e h is. (left e h is).disk bytes) (λ e h _ same. cc (control_bare h))

  levels_bare : (h : List Entry) (timer other : PitState) → timer ≡ other
      → levels_with setup h timer ≡ levels_with setup (bare h) other
  unfolding wire_of irq_of
  levels_bare h timer other same = levels-same setup h (bare h) timer other (record {
    out = ap (out_of 0) same;
    clock = clock_bare h;
    disk = λ bytes. disk_bare bytes h;
    wires = λ dev. along (λ h. wire_of h dev) (λ e h is. (left e h is).wires dev) (λ e h _ same. cc) h;
    lines = λ line. along (λ h. irq_of h line) (λ e h is. (left e h is).lines line) (λ e h _ same. cc) h;
    routes = map-same _ _ pirqs (λ k. byte_bare setup (pirq k) h);
  })

  edges_bare : (h : List Entry) → elcr_of h ≡ elcr_of (bare h)
  edges_bare h = elcr-same h (bare h) (triggers_bare h)

  pulsed_bare : (before : List Entry) (count : ℕ) (pair : Pair)
      → pair_pulsed setup before count pair ≡ pair_pulsed setup (bare before) count pair
  unfolding pair_pulsed
  pulsed_bare h zero pair = refl
  pulsed_bare h (suc k) pair =
      cc (pulsed_bare h k pair, levels_bare h _ _ (ap (pulses (suc k)) (timer_bare h)), edges_bare h)

  -- an entry that is no look, after a history and after that history without its looks
  stepped_next : (entry : Entry) (before : List Entry) (event : Event) (pair : Pair) → is_look entry.event ≡ false
      → pair_stepped setup entry before event pair ≡ pair_stepped setup (plain entry) (bare before) event pair
  stepped_next entry before event pair not =
      let is = bare_entry entry before not in let edges = edges_bare (entry ∷ before) in
      let levels = levels_bare (entry ∷ before) _ _ (timer_bare (entry ∷ before)) in
      grind (arith, is, levels, pulsed_bare before, control_bare before, edges)

  pair_bare : (h : List Entry) → pair_of setup h ≡ pair_of setup (bare h)
  unfolding pair_of
  pair_bare = along (pair_of setup) (λ e h is. (left e h is).pair)
      (λ e h not same. ap (pair_stepped setup e h e.event) same ∙ stepped_next e h e.event (pair_of setup (bare h)) not)

-- ---- two histories with the same entries but for looks and numbers

module _ (leaves : MemoryLeavesDevices) (setup : Setup) (final before : List Entry) (same : bare final ≡ bare before)
  where
    -- what is the same without looks is the same
    both : {X : Type 0} (f : List Entry → X) → ((h : List Entry) → f h ≡ f (bare h)) → f final ≡ f before
    both f is = is final ∙ ap f same ∙ sym (is before)

    bytes_same : byte_of setup final ≡ byte_of setup before
    bytes_same = λ i reg. both (λ h. byte_of setup h reg) (byte_bare setup reg) i

    cells_same : stored_of final ≡ stored_of before
    unfolding stored_of
    cells_same = λ i cell. both (λ h. stored_of h cell)
        (along (λ h. stored_of h cell) (λ e h is. let none : entry_put e.event e.reply cell ≡ None =
        rw is.3 (look_put is.0 is.1 is.2 e.reply cell) in rw none refl) (λ e h _ same. cc)) i

    pair_same : pair_of setup final ≡ pair_of setup before
    pair_same = both (pair_of setup) (pair_bare leaves setup)

    port_same : (dev : Dev) (port : ℕ) (width : Width)
        → port_value setup final dev port width ≡ port_value setup before dev port width
    unfolding device_value
    port_same dev port width =
        let address = both config_address address_bare in let control = both reset_control control_bare in
        let timer = both timer_of (timer_bare leaves setup) in let clock = both clock_of (clock_bare leaves setup) in
        let triggers = both triggers_of (triggers_bare leaves setup) in
        let plain = both plain_of (plain_bare leaves setup) in
        let disk = disk_of-same setup.disk (λ bytes. disk_with bytes final) (λ bytes. disk_with bytes before)
        (λ bytes. both (disk_with bytes) (disk_bare leaves setup bytes)) in
        grind (arith, address, control, pair_same, timer, clock, triggers, plain, disk)

    dram_same : dram_byte setup final ≡ dram_byte setup before
    dram_same = λ i addr. if nat_lt addr (installed setup) then cells_same i (DramCell addr) else 0xFF

    card_same : (dev base : ℕ) → card_byte setup final dev base ≡ card_byte setup before dev base
    card_same dev base = λ i off.
        if base == 6 then expansion_byte dev off else
        if nat_lt off (kept_size (card_at setup dev) base) then cells_same i (CardCell dev base off) else 0xFF

    value_same : (target : Target) (addr : ℕ) (width : Width)
        → value_at setup final target addr width ≡ value_at setup before target addr width
    value_same (Rom off) addr width = refl
    value_same (Card dev base off) addr width = ap (λ (f : ℕ → ℕ). wide f off width) (card_same dev base)
    value_same (Config reg) addr width = ap (λ (f : Reg → ℕ). wide (λ off. f (record reg { off = off })) reg.off width)
        bytes_same
    value_same (Device dev) addr width = port_same dev addr width
    value_same Abort addr width = refl
    value_same _ addr width = ap (λ (f : ℕ → ℕ). wide f addr width) dram_same

    values_same : value_at setup final ≡ value_at setup before
    values_same = λ i target addr width. value_same target addr width i

    pub blind_at : (event : Event) (reply : Reply) → IsAnswer setup before event reply
        → IsAnswer setup final event reply
    unfolding memory_answer wide_value port_answer part_answer
    blind_at (Memory access) reply answer = rw (bytes_same, values_same) answer
    blind_at (Wide access) (Parts parts value) answer = record {
      value_is = rw (bytes_same, values_same) answer.value_is;
      each = answer.each ∙ sym (map-same _ _ (parts_of access) (λ part. rw bytes_same refl));
    }
    blind_at (Wide access) _ answer = absurd answer
    blind_at (Port access) reply answer = rw (bytes_same, both config_address address_bare, values_same) answer
    blind_at (LookAt kind addr smm) (Saw look) answer = record {
      version = answer.version ∙ sym (version_same setup final before same);
      span = rw bytes_same answer.span;
    }
    blind_at (LookAt kind addr smm) _ answer = absurd answer
    blind_at Ack reply answer = answer
        ∙ sym (ap (λ (p : Pair). Bus (Some ((answer_of p).vector)) (Device (who_answered (answer_of p))) None)
        pair_same)
    blind_at _ reply answer = answer
