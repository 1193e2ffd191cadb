-- Which records ask for no pulses, and whether OUT of counter 0 rises at one of some.
use Rattle.std.proofs.Common.{◌≡◌, ℕ, zero, suc, ◌-◌, ◌<◌, ◌≤◌, Bool, true, false, not, ◌&&◌, if◌then◌else◌, List}
use Rattle.std.proofs.Common.{Option, Some, None, IfSome, nat_lt, nat_le, option_map, option_and_then, inl, inr, refl}
use Rattle.std.proofs.Common.{subst, sym, arith, ◌==◌}
use Rattle.std.proofs.lemmas.Bool.{cases_lt}
use Rattle.board_base.specs.declared.access.Access.{Access}
use Rattle.board_prelude.specs.{PortAccess, WideAccess}
use Rattle.board_prelude.proofs.{nat_tests, Kind, Width, Entry, Event, Memory, Wide, Port, Pulses, PitState, out_of}
use Rattle.board_prelude.proofs.{pulses, rises, timer_of}
use Rattle.board_spec.specs.declared.event.Event.TheVariants.{Look as LookAt}
use Rattle.pit_8254.specs.NextRise.{IsNextRise, RisesAt}
use Rattle.board_chipset.specs.Chipset.{Running, IsLeftBy}
use Rattle.uart_16550.specs.declared.com1.Happening.{Happening}
use Rattle.uart_16550.specs.declared.com1.Happening.TheVariants.{Happens}
use Rattle.machine_records.specs.declared.event.EventRecord.{EventRecord}
use Rattle.machine_records.specs.Events.{access_said, asked_by, asked_said, cycle_said, event_said}
use Rattle.machine_records.specs.Events.{direction_said, is_plain, kind_said, port_said, width_said}
use Rattle.machine_records.specs.Numbers.{look_event, memory_event, port_event}
use Rattle.machine_records.specs.StepLines.{IsPulsed, pulses_rise, rises_by}

-- ---- records

-- an event that is no pulses
unfoldable QuietEvent : Option Event → Type 0
QuietEvent said = IfSome said (λ event. (timer : PitState) → pulses_rise timer event ≡ false)

unfoldable Quiet : Option Happening → Type 0
Quiet said = IfSome said (λ asked. (timer : PitState) → rises_by timer asked ≡ false)

either : (test : Bool) (one other : Option Event) → QuietEvent one → QuietEvent other →
    QuietEvent (if test then one else other)
either true one other p q = p
either false one other p q = q

then_quiet : {X : Type 0} (next : X → Option Event) (some : Option X) → ((x : X) → QuietEvent (next x)) →
    QuietEvent (option_and_then next some)
unfolding QuietEvent
then_quiet next None each = tt
then_quiet next (Some x) each = each x

happens : (said : Option Event) → QuietEvent said → Quiet (option_map (λ event. Happens event) said)
unfolding QuietEvent Quiet
happens None quiet = tt
happens (Some event) quiet = quiet

no_event : QuietEvent None
unfolding QuietEvent
no_event = tt

of_memory : (access : Access) → QuietEvent (Some (Memory access))
unfolding QuietEvent
of_memory access = λ timer. refl

of_wide : (access : WideAccess) → QuietEvent (Some (Wide access))
unfolding QuietEvent
of_wide access = λ timer. refl

of_port : (access : PortAccess) → QuietEvent (Some (Port access))
unfolding QuietEvent
of_port access = λ timer. refl

cycle_quiet : (said : EventRecord) (kind : Kind) (width : Width) → QuietEvent (cycle_said said kind width)
unfolding cycle_said
cycle_quiet said kind width = either _ _ _ (either _ _ _ (of_memory _) no_event) (of_wide _)

access_quiet : (said : EventRecord) (kind : Kind) → QuietEvent (access_said said kind)
unfolding access_said
access_quiet said kind =
    either _ _ _ (of_wide _) (then_quiet (cycle_said said kind) (width_said said.bytes) (cycle_quiet said kind))

port_quiet : (said : EventRecord) (width : Width) (write : Bool) → QuietEvent (port_said said width write)
unfolding port_said
port_quiet said width write = either _ _ _ (of_port _) no_event

look_quiet : (said : EventRecord) (kind : Option Kind) →
    QuietEvent (option_map (λ it. LookAt it said.addr (said.smm == 1)) kind)
unfolding QuietEvent
look_quiet said None = tt
look_quiet said (Some kind) = λ timer. refl

told : (chipset : Running) (said : Option Happening) → Quiet said → IfSome said (λ asked. IsPulsed chipset asked false)
unfolding Quiet
told chipset None quiet = tt
told chipset (Some asked) quiet = record {
  held = sym (quiet chipset.state.devices.timer);
  left = λ history left. sym (quiet (timer_of history));
}

pub quiet_memory : (chipset : Running) (said : EventRecord) → said.what ≡ memory_event →
    IfSome (asked_said said) (λ asked. IsPulsed chipset asked false)
unfolding asked_said event_said asked_by
quiet_memory chipset said is =
    rw is (told chipset _ (happens _ (either _ _ _ (then_quiet _ _ (access_quiet _)) no_event)))

port_asked : (said : EventRecord) →
    QuietEvent (option_and_then
    (λ width. option_and_then (port_said said width) (direction_said said.kind)) (width_said said.bytes))
port_asked said =
    then_quiet (λ width. option_and_then (port_said said width) (direction_said said.kind)) (width_said said.bytes)
    (λ width. then_quiet (port_said said width) (direction_said said.kind) (port_quiet said width))

pub quiet_port : (chipset : Running) (said : EventRecord) → said.what ≡ port_event →
    IfSome (asked_said said) (λ asked. IsPulsed chipset asked false)
unfolding asked_said event_said asked_by
quiet_port chipset said is =
    let it : EventRecord = record said { what = port_event } in
    rw is (told chipset _ (happens _ (either (is_plain said) _ _ (port_asked it) no_event)))

pub quiet_look : (chipset : Running) (said : EventRecord) → said.what ≡ look_event →
    IfSome (asked_said said) (λ asked. IsPulsed chipset asked false)
unfolding asked_said event_said asked_by
quiet_look chipset said is =
    let it : EventRecord = record said { what = look_event } in
    rw is (told chipset _ (happens _ (either (is_plain said) _ _ (look_quiet it (kind_said said.kind)) no_event)))

pub ruleset quiet_records = (quiet_memory, quiet_port, quiet_look)

-- ---- rises

no_rise : (now was : Bool) → (was ≡ false → now ≡ true → ⊥) → ◌≡◌ {A = ℕ} (if now && not was then 1 else 0) 0
no_rise true true none = refl
no_rise true false none = absurd (none refl refl)
no_rise false true none = refl
no_rise false false none = refl

one_rise : (now was : Bool) → was ≡ false → now ≡ true → ◌≡◌ {A = ℕ} (if now && not was then 1 else 0) 1
one_rise now was low high = rw (low, high) refl

-- where OUT rises at none of some pulses it has not risen
never : (timer : PitState) (count : ℕ) → ((k : ℕ) → k ≤ count → RisesAt timer k → ⊥) → rises count timer ≡ 0
unfolding rises pulses out_of
never timer zero none = refl
never timer (suc count) none =
    let before = never timer count (λ k small. none k (omega (arith, small))) in
    let back : suc count - 1 ≡ count = omega arith in
    let last = no_rise (pulses (suc count) timer).counter0.out (pulses count timer).counter0.out
    (λ low high. none (suc count) (omega arith) (omega arith, rw back low, high)) in
    omega (arith, before, last)

-- and where it rises at one of them it has
at_last : (timer : PitState) (count : ℕ) → RisesAt timer (suc count) → 0 < rises (suc count) timer
unfolding rises pulses out_of
at_last timer count here =
    let back : suc count - 1 ≡ count = omega arith in
    let last = one_rise (pulses (suc count) timer).counter0.out (pulses count timer).counter0.out
    (rw back at here.1) here.2 in
    omega (arith, last)

once : (timer : PitState) (count k : ℕ) → k ≤ count → RisesAt timer k → 0 < rises count timer
unfolding rises
once timer zero k small here = absurd (omega (arith, small, here.0))
once timer (suc count) k small here =
    elim (cases_lt k (suc count)) [
      | inl below ↦ let some = once timer count k (omega (arith, below)) here in omega (arith, some)
      | inr above ↦
          let last : k ≡ suc count = omega (arith, small, above) in
          at_last timer count (subst (RisesAt timer) last here)
    ]

-- ---- what the call that tells the next rise says of a count of pulses

within : (timer : PitState) (count n : ℕ) → IsNextRise timer (Some n) → nat_le n count ≡ nat_lt 0 (rises count timer)
within timer count n next =
    elim (cases_lt count n) [
      | inl before ↦
          let none = never timer count (λ k small here. omega (arith, before, small, next.1 k here)) in grind (arith, nat_tests)
      | inr reached ↦ let some = once timer count n reached next.0 in grind (arith, nat_tests)
    ]

none_within : (timer : PitState) (count : ℕ) → IsNextRise timer None → false ≡ nat_lt 0 (rises count timer)
none_within timer count next =
    let none = never timer count (λ k small here. next k here) in grind (arith, nat_tests)

pub pulsed_within : (chipset : Running) (count n : ℕ) → IsNextRise chipset.state.devices.timer (Some n) →
    ((history : List Entry) → IsLeftBy chipset history → IsNextRise (timer_of history) (Some n)) →
    IsPulsed chipset (Happens (Pulses count)) (nat_le n count)
pulsed_within chipset count n held left = record {
  held = within chipset.state.devices.timer count n held;
  left = λ history is. within (timer_of history) count n (left history is);
}

pub never_pulsed : (chipset : Running) (count : ℕ) → IsNextRise chipset.state.devices.timer None →
    ((history : List Entry) → IsLeftBy chipset history → IsNextRise (timer_of history) None) →
    IsPulsed chipset (Happens (Pulses count)) false
never_pulsed chipset count held left = record {
  held = none_within chipset.state.devices.timer count held;
  left = λ history is. none_within (timer_of history) count (left history is);
}
