-- Parts of a run of pulses, one after another.
use Rattle.std.proofs.Common.{◌<◌, ◌≡◌, ℕ, zero, suc, ◌+◌, ◌-◌, ◌≤◌, Bool, true, refl, sym, arith, add-zero, add-suc}
use Rattle.device_spec.specs.Pit.{CounterState, PitState, pulse, pulse_all, pulses, rises}
use Rattle.device_spec.specs.PitLaws.{pulses_of}
use Rattle.device_spec.proofs.PitPulses.{counters_apart}
use Rattle.std.proofs.lemmas.Bool.Decides.{nat_tests}
use Rattle.pit_8254.specs.Quiet.{rise, rises_of, quiet_pulses, after_quiet}
use Rattle.pit_8254.specs.Runs.{IsPart}
use Rattle.pit_8254.specs.declared.counting.running.Run.{Run}
use Rattle.pit_8254.proofs.Quiet.{quietly}

pub add_up : (gate : Bool) (n m : ℕ) (c : CounterState) →
    (pulses_of gate m (pulses_of gate n c) ≡ pulses_of gate (n + m) c)
    × (rises_of gate (n + m) c ≡ rises_of gate n c + rises_of gate m (pulses_of gate n c))
unfolding pulses_of rises_of
add_up gate n zero c = rw (add-zero n) (refl, sym (add-zero (rises_of gate n c)))
add_up gate n (suc m) c = rw (add-suc n m) (grind (arith, nat_tests, add_up gate n m c))

-- OUT rises at most once a pulse
pub few_rises : (gate : Bool) (n : ℕ) (c : CounterState) → rises_of gate n c ≤ n
unfolding rises_of
few_rises gate zero c = omega arith
few_rises gate (suc n) c = grind (arith, nat_tests, few_rises gate n c)

pub no_pulses : (gate : Bool) (n : ℕ) (c : CounterState) → n ≡ 0 →
    (pulses_of gate n c ≡ c) × (rises_of gate n c ≡ 0)
unfolding pulses_of rises_of
no_pulses gate n c none = rw none (refl, refl)

-- ---- parts of a run

pub part_quiet : (gate : Bool) (c to : CounterState) (before after : Run) (n : ℕ) → n ≤ before.left →
    n ≤ quiet_pulses gate c → to ≡ after_quiet gate n c → after.left ≡ before.left - n → after.rose ≡ before.rose →
    IsPart gate c to before after
part_quiet gate c to before after n within few is left rose = grind (arith, nat_tests, quietly gate n c)

pub part_pulse : (gate : Bool) (c to : CounterState) (before after : Run) → 0 < before.left → to ≡ pulse gate c →
    after.left ≡ before.left - 1 → after.rose ≡ before.rose + rise c.out to.out → IsPart gate c to before after
unfolding pulses_of rises_of
part_pulse gate c to before after some is left rose = grind (arith, nat_tests)

pub part_join : {gate : Bool} {a b c : CounterState} {p q r : Run} → IsPart gate a b p q → IsPart gate b c q r →
    IsPart gate a c p r
part_join one two = grind (arith, nat_tests, add_up)

pub ruleset parts = (add_up, few_rises, nat_tests)

-- ---- the chip

-- its rises are those of counter 0
pub rises_are : (n : ℕ) (p : PitState) → rises n p ≡ rises_of true n p.counter0
unfolding rises rises_of pulse_all
rises_are zero p = refl
rises_are (suc n) p = rw (rises_are n p, counters_apart n p) refl

pub apart : (n : ℕ) (p : PitState) → pulses n p ≡ record p {
  counter0 = pulses_of true n p.counter0;
  counter1 = pulses_of true n p.counter1;
  counter2 = pulses_of p.gate2 n p.counter2;
}
apart n p = counters_apart n p
