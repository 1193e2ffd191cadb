-- Periods of the 8254, from the pulse that loads a count on.
use Rattle.std.specs.Prelude.{◌≡◌, ℕ, ◌+◌, ◌-◌, ◌/◌, ◌<◌, ◌≤◌, Bool, true, false, Some}
use Rattle.device_spec.specs.Pit.{Mode, RateGenerator, SquareWave, CounterState, first_element}
use Rattle.device_spec.specs.PitLaws.{pulses_of}

-- A counter stands directly after a load of n, which left OUT at a level, and n is the count written last.
pub record IsAtLoad (of_mode : Mode) (n : ℕ) (level : Bool) (c : CounterState) : Type 0 where
  pub mode : c.mode ≡ of_mode
  pub element : c.element ≡ first_element of_mode n
  pub count : c.count ≡ Some n
  pub in_use : c.in_use ≡ n
  pub out : c.out ≡ level
  pub null_count : c.null_count ≡ false
  pub load_asked : c.load_asked ≡ false
  pub trigger : c.trigger ≡ false
  pub started : c.started ≡ true
  pub expired : c.expired ≡ false

-- MODES 2 AND 3: PERIODS

-- with the gate at 1, n pulses are a period: OUT is 0 for the last of them
pub record HasRatePeriod (n : ℕ) (c : CounterState) : Type 0 where
  pub high : (k : ℕ) → k + 1 < n → (pulses_of true k c).out ≡ true
  pub low : (pulses_of true (n - 1) c).out ≡ false
  pub again : pulses_of true n c ≡ c

-- with the gate at 1, n pulses are a period: OUT is 1 for half of them, the larger half of an odd n, and then 0
pub record HasSquarePeriod (n : ℕ) (c : CounterState) : Type 0 where
  pub high : (k : ℕ) → k < n - n / 2 → (pulses_of true k c).out ≡ true
  pub low : (k : ℕ) → n - n / 2 ≤ k → k < n → (pulses_of true k c).out ≡ false
  pub again : pulses_of true n c ≡ c

abbrev pub RateRepeats : Type 0
RateRepeats = (n : ℕ) (c : CounterState) → 2 ≤ n → IsAtLoad RateGenerator n true c → HasRatePeriod n c

abbrev pub SquareRepeats : Type 0
SquareRepeats = (n : ℕ) (c : CounterState) → 2 ≤ n → IsAtLoad SquareWave n true c → HasSquarePeriod n c
