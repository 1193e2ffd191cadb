-- Pulses of the whole chip.
use Rattle.std.proofs.Common.{◌≡◌, ℕ, zero, suc, ◌+◌, refl, ap, sym, add-zero, add-suc, add_assoc}
use Rattle.device_spec.specs.Pit.{PitState, pulses, rises, rise_of, pulse_all}
use Rattle.device_spec.specs.PitLaws.{PulsesAddUp, CountersAreApart, pulses_of}

pulses-add : (n m : ℕ) (p : PitState) → pulses (n + m) p ≡ pulses m (pulses n p)
unfolding pulses
pulses-add n zero p = rw (add-zero n) refl
pulses-add n (suc m) p = rw (add-suc n m) (ap pulse_all (pulses-add n m p))

rises-add : (n m : ℕ) (p : PitState) → rises (n + m) p ≡ rises n p + rises m (pulses n p)
unfolding pulses rises
rises-add n zero p = rw (add-zero n) (sym (add-zero (rises n p)))
rises-add n (suc m) p =
    rw (add-suc n m) (rw (rises-add n m p, pulses-add n m p)
    (add_assoc (rises n p) (rises m (pulses n p)) (rise_of (pulses m (pulses n p)))))

pub pulses_add_up : PulsesAddUp
pulses_add_up n m p = (pulses-add n m p, rises-add n m p)

pub counters_apart : CountersAreApart
unfolding pulses pulses_of pulse_all
counters_apart zero p = refl
counters_apart (suc n) p = ap pulse_all (counters_apart n p)
