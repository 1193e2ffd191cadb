-- The pulse after those that are quiet, and what it leads to.
use Rattle.std.proofs.Common.{◌≡◌, ℕ, ◌+◌, ◌≤◌, ◌⊎◌, Bool, true, false, arith}
use Rattle.std.proofs.lemmas.Bool.Decides.{nat_tests}
use Rattle.device_spec.specs.Pit.{Mode, TerminalCount, OneShot, RateGenerator, SquareWave, SoftwareStrobe}
use Rattle.device_spec.specs.Pit.{HardwareStrobe, CounterState, is_periodic, load, count_down, count_to_end}
use Rattle.device_spec.specs.Pit.{count_to_reload, count_half, count_to_strobe, pulse_by_mode, pulse}
use Rattle.device_spec.specs.PitLaws.{pulses_of}
use Rattle.pit_8254.specs.Quiet.{every_pulse, quiet_pulses, after_quiet, rise, rises_of}
use Rattle.pit_8254.specs.Runs.{IsSettled, IsAtPeriod}
use Rattle.pit_8254.proofs.Quiet.{quietly, out_stays}

-- the counter after the quiet pulses and one more
abbrev pub edge : Bool → CounterState → CounterState
edge gate c = pulse gate (after_quiet gate (quiet_pulses gate c) c)

pub edge_is : (gate : Bool) (n : ℕ) (c : CounterState) → n ≡ quiet_pulses gate c + 1 →
    (pulses_of gate n c ≡ edge gate c) × (rises_of gate n c ≡ rise c.out (edge gate c).out)
unfolding pulses_of rises_of
edge_is gate n c is =
    rw is (grind (arith, nat_tests, quietly gate (quiet_pulses gate c) c, out_stays gate (quiet_pulses gate c) c))

-- all that come are quiet
abbrev pub AreQuiet : Bool → CounterState → Type 0
AreQuiet gate c = quiet_pulses gate c ≡ every_pulse

-- the same, or one more leads to this
abbrev pub ByOne : (CounterState → Type 0) → Bool → CounterState → Type 0
ByOne P gate c = AreQuiet gate c ⊎ P (edge gate c)

-- or two more do, and OUT is 0 between
abbrev pub ByTwo : (CounterState → Type 0) → Bool → CounterState → Type 0
ByTwo P gate c = ByOne P gate c ⊎ (((edge gate c).out ≡ false) × ByOne P gate (edge gate c))

-- OUT is 0, and the count, the half or the strobe at its end
abbrev AtEndIn : Mode → CounterState → Type 0
AtEndIn RateGenerator c = c.element ≡ 1
AtEndIn SquareWave c = Unit {0}
AtEndIn _ c = c.expired ≡ true

record IsAtEnd (mode : Mode) (gate : Bool) (c : CounterState) : Type 0 where
  settled : IsSettled mode gate c
  out : c.out ≡ false
  by_mode : AtEndIn mode c

-- ---- modes 0 and 1

pub ends : (gate : Bool) (c : CounterState) → (c.mode ≡ TerminalCount) ⊎ (c.mode ≡ OneShot) →
    IsSettled c.mode gate c → ByOne (AreQuiet gate) gate c
unfolding quiet_pulses after_quiet pulse pulse_by_mode count_to_end count_down load
ends gate c mode s = grind (arith, nat_tests)

-- ---- modes 2 and 3

pub comes : (gate : Bool) (c : CounterState) → is_periodic c.mode ≡ true → IsSettled c.mode gate c →
    ByTwo (IsAtPeriod gate) gate c
unfolding quiet_pulses after_quiet pulse pulse_by_mode count_to_reload count_half count_down load
comes gate c periodic s = grind (arith, nat_tests)

-- the pulses up to the next but one that is not quiet are a period at least
pub period_ends : (gate : Bool) (c : CounterState) → IsAtPeriod gate c →
    AreQuiet gate c ⊎ (c.in_use ≤ quiet_pulses gate c + quiet_pulses gate (edge gate c) + 2)
unfolding quiet_pulses after_quiet pulse pulse_by_mode count_to_reload count_half count_down load
period_ends gate c is = grind (arith, nat_tests)

-- ---- modes 4 and 5

pub strobes : (gate : Bool) (c : CounterState) → (c.mode ≡ SoftwareStrobe) ⊎ (c.mode ≡ HardwareStrobe) →
    IsSettled c.mode gate c → ByTwo (AreQuiet gate) gate c
unfolding quiet_pulses after_quiet pulse pulse_by_mode count_to_strobe count_down load
strobes gate c mode s = grind (arith, nat_tests)
