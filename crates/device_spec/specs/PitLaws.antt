-- Pulses of the 8254's machine.
use Rattle.std.specs.Prelude.{◌≡◌, ℕ, zero, suc, ◌+◌, Bool, true}
use Rattle.device_spec.specs.Pit.{CounterState, PitState, pulse, pulses, rises}

-- PULSES

-- n + m pulses are n and then m pulses, and the rises add up
abbrev pub PulsesAddUp : Type 0
PulsesAddUp =
    (n m : ℕ) (p : PitState)
    → (pulses (n + m) p ≡ pulses m (pulses n p)) × (rises (n + m) p ≡ rises n p + rises m (pulses n p))

-- n pulses of one counter, with its gate at a level
unfoldable pub pulses_of : Bool → ℕ → CounterState → CounterState
pulses_of gate zero c = c
pulses_of gate (suc n) c = pulse gate (pulses_of gate n c)

-- the counters do not see one another
abbrev pub CountersAreApart : Type 0
CountersAreApart =
    (n : ℕ) (p : PitState)
    → pulses n p
    ≡ record p {
      counter0 = pulses_of true n p.counter0;
      counter1 = pulses_of true n p.counter1;
      counter2 = pulses_of p.gate2 n p.counter2;
    }
