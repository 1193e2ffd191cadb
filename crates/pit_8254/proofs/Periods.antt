-- Whole periods.
use Rattle.std.proofs.Common.{◌≡◌, ℕ, zero, suc, ◌+◌, ◌-◌, ◌*◌, ◌/◌, ◌%◌, ◌<◌, ◌≤◌, ◌==◌, Bool, true, false, cond, Some}
use Rattle.std.proofs.Common.{arith}
use Rattle.std.proofs.lemmas.Bool.Decides.{nat_tests}
use Rattle.device_spec.specs.Pit.{RateGenerator, SquareWave, CounterState}
use Rattle.device_spec.specs.PitLaws.{pulses_of}
use Rattle.device_spec.proofs.PitPeriods.{rate_repeats, square_repeats}
use Rattle.pit_8254.specs.Quiet.{rises_of}
use Rattle.pit_8254.specs.Runs.{IsPart, IsAtPeriod}
use Rattle.pit_8254.specs.NextRise.{IsFirstRise}
use Rattle.pit_8254.specs.declared.counting.running.Run.{Run}
use Rattle.pit_8254.proofs.Runs.{add_up}

-- OUT is 1 at the first a pulses of a period, 0 at the others, and then 1 again
record HasPeriod (gate : Bool) (a : ℕ) (c : CounterState) : Type 0 where
  some : 1 ≤ a
  shorter : a < c.in_use
  out : c.out ≡ true
  high : (k : ℕ) → k < a → (pulses_of gate k c).out ≡ true
  low : (k : ℕ) → a ≤ k → k < c.in_use → (pulses_of gate k c).out ≡ false
  again : pulses_of gate c.in_use c ≡ c

rate_period : (gate : Bool) (c : CounterState) → c.mode ≡ RateGenerator → IsAtPeriod gate c →
    HasPeriod gate (c.in_use - 1) c
rate_period gate c m is = grind (arith, nat_tests, rate_repeats c.in_use c is.least)

square_period : (gate : Bool) (c : CounterState) → c.mode ≡ SquareWave → IsAtPeriod gate c →
    HasPeriod gate (c.in_use - c.in_use / 2) c
square_period gate c m is = grind (arith, nat_tests, square_repeats c.in_use c is.least)

rises_in : (gate : Bool) (a : ℕ) (c : CounterState) → HasPeriod gate a c → (k : ℕ) → k ≤ c.in_use →
    rises_of gate k c ≡ cond (k == c.in_use) 1 0
unfolding rises_of pulses_of
rises_in gate a c is zero h = grind (arith, nat_tests, is.shorter)
rises_in gate a c is (suc k) h =
    grind (arith, nat_tests, rises_in gate a c is k, is.high k, is.low k, is.high (suc k), is.low (suc k), is.again)

record IsOnePeriod (gate : Bool) (c : CounterState) : Type 0 where
  again : pulses_of gate c.in_use c ≡ c
  not_yet : rises_of gate (c.in_use - 1) c ≡ 0
  once : rises_of gate c.in_use c ≡ 1

one_period : (gate : Bool) (a : ℕ) (c : CounterState) → HasPeriod gate a c → IsOnePeriod gate c
one_period gate a c is = grind (arith, nat_tests, rises_in gate a c is)

its_period : (gate : Bool) (c : CounterState) → IsAtPeriod gate c → IsOnePeriod gate c
its_period gate c is =
    let rate = one_period gate (c.in_use - 1) c in
    let square = one_period gate (c.in_use - c.in_use / 2) c in
    grind (arith, nat_tests, rate_period gate c, square_period gate c, rate, square)

-- from its first pulse on, OUT rises at its end
pub period_rises : {gate : Bool} {c : CounterState} → IsAtPeriod gate c → IsFirstRise gate c (Some c.in_use)
period_rises {gate} {c} is = grind (arith, nat_tests, its_period gate c is)

many : (gate : Bool) (m : ℕ) (c : CounterState) → IsOnePeriod gate c →
    (pulses_of gate (m * c.in_use) c ≡ c) × (rises_of gate (m * c.in_use) c ≡ m)
unfolding pulses_of rises_of
many gate zero c is = grind (arith, nat_tests)
many gate (suc m) c is = grind (arith, nat_tests, many gate m c is, add_up gate (m * c.in_use) c.in_use c)

pub part_periods : (gate : Bool) (c : CounterState) (before after : Run) → IsAtPeriod gate c →
    after.left ≡ before.left % c.in_use → after.rose ≡ before.rose + before.left / c.in_use →
    IsPart gate c c before after
part_periods gate c before after is left rose =
    let least = is.least in
    let count : before.left - after.left ≡ before.left / c.in_use * c.in_use = omega arith in
    grind (arith, nat_tests, many gate (before.left / c.in_use) c (its_period gate c is))
