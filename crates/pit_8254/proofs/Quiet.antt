-- Quiet pulses change nothing but CE, and come as often as they are told.
use Rattle.std.proofs.Common.{◌≡◌, ℕ, zero, suc, ◌<◌, ◌≤◌, ◌⊎◌, inl, inr, Bool, refl, ◌∙◌, arith}
use Rattle.std.proofs.lemmas.Bool.Decides.{nat_tests}
use Rattle.device_spec.specs.Pit.{Mode, TerminalCount, OneShot, RateGenerator, SquareWave, SoftwareStrobe}
use Rattle.device_spec.specs.Pit.{HardwareStrobe, CounterState, load, count_down, count_to_end, count_to_reload}
use Rattle.device_spec.specs.Pit.{count_half, count_to_strobe, pulse_by_mode, pulse}
use Rattle.device_spec.specs.PitLaws.{pulses_of}
use Rattle.pit_8254.specs.Quiet.{IsQuiet, most_count, rises_of, every_pulse, quiet_pulses, after_quiet}

-- n quiet pulses come: so many are told, or all that come are quiet
abbrev pub ComeQuietly : Bool → ℕ → CounterState → Type 0
ComeQuietly gate n c = (n ≤ quiet_pulses gate c) ⊎ ((c.element ≤ most_count) × (quiet_pulses gate c ≡ every_pulse))

one_in : (mode : Mode) (gate : Bool) (n : ℕ) (c : CounterState) → c.mode ≡ mode → ComeQuietly gate (suc n) c →
    pulse gate (after_quiet gate n c) ≡ after_quiet gate (suc n) c
unfolding quiet_pulses after_quiet pulse pulse_by_mode count_to_end count_to_reload count_half count_to_strobe
    count_down load
one_in TerminalCount gate n c m quiet = grind (arith, nat_tests)
one_in OneShot gate n c m quiet = grind (arith, nat_tests)
one_in RateGenerator gate n c m quiet = grind (arith, nat_tests)
one_in SquareWave gate n c m (inl more) = grind (arith, nat_tests)
one_in SquareWave gate n c m (inr all) = grind (arith, nat_tests)
one_in SoftwareStrobe gate n c m quiet = grind (arith, nat_tests)
one_in HardwareStrobe gate n c m quiet = grind (arith, nat_tests)

pub out_stays : (gate : Bool) (n : ℕ) (c : CounterState) → (after_quiet gate n c).out ≡ c.out
unfolding after_quiet
out_stays gate n c = grind (arith, nat_tests)

-- they leave the counter so, and OUT does not rise
pub quietly : (gate : Bool) (n : ℕ) (c : CounterState) → ComeQuietly gate n c →
    (pulses_of gate n c ≡ after_quiet gate n c) × (rises_of gate n c ≡ 0)
unfolding pulses_of rises_of after_quiet
quietly gate zero c quiet = grind (arith, nat_tests)
quietly gate (suc n) c quiet =
    let now = one_in c.mode gate n c refl quiet in
    grind (arith, nat_tests, quietly gate n c, now, out_stays gate n c, out_stays gate (suc n) c)

pub are_quiet : (gate : Bool) (c : CounterState) (k : ℕ) → k < quiet_pulses gate c → IsQuiet gate (pulses_of gate k c)
unfolding after_quiet
are_quiet gate c k h =
    rw (quietly gate k c (inl (omega arith))).0
    ((after_quiet gate (suc k) c).element, (one_in c.mode gate k c refl (inl h)) ∙ (grind (arith, nat_tests)))
