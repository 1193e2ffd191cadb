-- Whole counts of modes 0, 1, 4 and 5; and in modes 2 and 3 a count that is written waits for the next load.
use Rattle.std.proofs.Common.{◌≡◌, ℕ, zero, suc, ◌+◌, ◌-◌, ◌<◌, ◌≤◌, not, Bool, true, false, refl, ap, sym, arith}
use Rattle.std.proofs.Common.{add-zero, add-suc, ◌⊎◌, inl, inr, Option, Some, unwrap_or}
use Rattle.board_prelude.proofs.{cases_lt, nat_tests, Mode, TerminalCount, OneShot, SoftwareStrobe, HardwareStrobe}
use Rattle.board_prelude.proofs.{CounterState, count_down, count_to_end, count_to_strobe, pulse_by_mode, pulse}
use Rattle.board_prelude.proofs.{pulses_of, IsAtLoad, phase, phase-self, is_periodic, cases_eq, common_steps}
use Rattle.board_prelude.proofs.{asks_for_load, complete, take_low, take_byte, write}
use Rattle.board_laws.specs.PitCounts.{EndsOnce, CountsEndOnce, StrobesOnce, CountsStrobeOnce, out_at_load, CountWaits}
use Rattle.board_laws.specs.PitCounts.{CountIsTaken}
use Rattle.device_spec.specs.Pit.{load, count_to_reload, count_half}

-- OUT while the counter counts: 0 in modes 0 and 1, and 1 in modes 4 and 5
abbrev level_of : Mode → Bool
level_of mode = out_at_load mode false

-- in modes 0 and 4 a counter counts while its gate is 1, and in mode 0 while no write stopped it
abbrev IsOn : Mode → Bool → CounterState → Type 0
IsOn TerminalCount gate c = (gate ≡ true) × (c.stopped ≡ false)
IsOn SoftwareStrobe gate c = gate ≡ true
IsOn _ gate c = Unit {0}

-- the count came to its end: OUT rose, or the strobe was given
abbrev is_ended : Mode → CounterState → Bool
is_ended TerminalCount c = c.out
is_ended OneShot c = c.out
is_ended _ c = c.expired

record HasEnded (of_mode : Mode) (level : Bool) (c : CounterState) : Type 0 where
  mode : c.mode ≡ of_mode
  load_asked : c.load_asked ≡ false
  trigger : c.trigger ≡ false
  ended : is_ended of_mode c ≡ true
  out : c.out ≡ level

stays : (mode : Mode) (gate level : Bool) (c : CounterState) → is_periodic mode ≡ false → HasEnded mode level c →
    HasEnded mode true (pulse gate c)
unfolding pulse pulse_by_mode count_to_end count_to_strobe count_down
stays mode gate level c p s = grind (arith, nat_tests)

-- a counter that counts down from its load
module _ (mode : Mode) (gate : Bool) (n : ℕ) (c : CounterState) (p : is_periodic mode ≡ false)
    (on : IsOn mode gate c) (s : IsAtLoad mode (suc n) (level_of mode) c) where
  runs_down : (k : ℕ) → k < suc n → pulses_of gate k c ≡ phase c (suc n - k) (level_of mode)
  unfolding pulses_of pulse pulse_by_mode count_to_end count_to_strobe count_down
  runs_down zero h =
      let element : c.element ≡ suc n - 0 = grind (arith, nat_tests) in
      sym (phase-self c (suc n - 0) (level_of mode) element s.out)
  runs_down (suc k) h = rw (runs_down k (omega arith)) (grind (arith, nat_tests))

  -- at the last pulse, and at each one after it
  at_end : HasEnded mode (not (level_of mode)) (pulses_of gate (suc n) c)
  unfolding pulses_of pulse pulse_by_mode count_to_end count_to_strobe count_down
  at_end =
      let last : suc n - n ≡ 1 = omega arith in
      rw (runs_down n (omega arith), last) (grind (arith, nat_tests))

  past_end : (k : ℕ) → HasEnded mode true (pulses_of gate (suc (suc (n + k))) c)
  unfolding pulses_of
  past_end zero = rw (add-zero n) (stays mode gate _ _ p at_end)
  past_end (suc k) = rw (add-suc n k) (stays mode gate _ _ p (past_end k))

record OneEnd (gate level : Bool) (n : ℕ) (c : CounterState) : Type 0 where
  before : (k : ℕ) → k < n → (pulses_of gate k c).out ≡ level
  now : (pulses_of gate n c).out ≡ not level
  after : (k : ℕ) → n < k → (pulses_of gate k c).out ≡ true

one_end : (mode : Mode) (gate : Bool) (n : ℕ) (c : CounterState) → is_periodic mode ≡ false → IsOn mode gate c →
    1 ≤ n → IsAtLoad mode n (level_of mode) c → OneEnd gate (level_of mode) n c
one_end mode gate zero c p on least s = absurd (omega arith)
one_end mode gate (suc n) c p on least s = record {
  before = λ k below. ap (λ d. d.out) (runs_down mode gate n c p on s k below);
  now = (at_end mode gate n c p on s).out;
  after = λ k above.
      let is : k ≡ suc (suc (n + (k - suc (suc n)))) = omega arith in
      rw is ((past_end mode gate n c p on s (k - suc (suc n))).out);
}

ends_once : (gate : Bool) (n : ℕ) (c : CounterState) → OneEnd gate false n c → EndsOnce gate n c
ends_once gate n c is = grind (arith, nat_tests, common_steps, cases_eq)

pub counts_end_once : CountsEndOnce
counts_end_once = record {
  terminal_count = λ n c least s stopped.
      ends_once true n c (one_end TerminalCount true n c refl (refl, stopped) least s);
  one_shot = λ gate n c least s. ends_once gate n c (one_end OneShot gate n c refl tt least s);
}

strobes_once : (gate : Bool) (n : ℕ) (c : CounterState) → OneEnd gate true n c → StrobesOnce gate n c
strobes_once gate n c is = grind (arith, nat_tests, common_steps, cases_lt)

pub counts_strobe_once : CountsStrobeOnce
counts_strobe_once = record {
  software = λ n c least s. strobes_once true n c (one_end SoftwareStrobe true n c refl refl least s);
  hardware = λ gate n c least s. strobes_once gate n c (one_end HardwareStrobe gate n c refl tt least s);
}

-- ---- modes 2 and 3

-- the same counter where another count waits
abbrev waiting : CounterState → ℕ → Bool → Option ℕ → CounterState
waiting c m null low = record c { count = Some m; null_count = null; low_written = low; stopped = false }

-- a counter in a periodic mode with a count
record Runs (n : ℕ) (c : CounterState) : Type 0 where
  periodic : is_periodic c.mode ≡ true
  count : c.count ≡ Some n

-- a load has taken the count
record HasTaken (m : ℕ) (c : CounterState) : Type 0 where
  null : c.null_count ≡ false
  in_use : c.in_use ≡ m
  runs : Runs m c

-- a pulse loads the count that waits, or goes on as it would without it
next_by : (gate : Bool) (c : CounterState) (n m : ℕ) (null : Bool) (low : Option ℕ) → Runs n c →
    (pulse gate (waiting c m null low) ≡ waiting (pulse gate c) m null low)
    ⊎ HasTaken m (pulse gate (waiting c m null low))
unfolding pulse pulse_by_mode count_to_reload count_half count_down load
next_by gate c n m null low r = grind (arith, nat_tests)

-- ---- what pulses keep

runs_by : (gate : Bool) (n : ℕ) (c : CounterState) → Runs n c → Runs n (pulse gate c)
unfolding pulse pulse_by_mode count_to_reload count_half count_down load
runs_by gate n c r = grind (arith, nat_tests)

taken_by : (gate : Bool) (m : ℕ) (c : CounterState) → HasTaken m c → HasTaken m (pulse gate c)
unfolding pulse pulse_by_mode count_to_reload count_half count_down load
taken_by gate m c t = grind (arith, nat_tests)

-- ---- a write

abbrev IsWaiting : CounterState → CounterState → Type 0
IsWaiting c d = d ≡ waiting c (unwrap_or d.count 0) d.null_count d.low_written

-- neither mode ends at a count, and neither loads one that is written while it counts
waits : (byte n : ℕ) (c : CounterState) → is_periodic c.mode ≡ true → c.started ≡ true → c.count ≡ Some n →
    IsWaiting c (write byte c)
unfolding write take_byte take_low complete asks_for_load
waits byte n c periodic started count = grind (arith, nat_tests)

-- ---- any number of pulses

runs_on : (gate : Bool) (n : ℕ) (c : CounterState) → Runs n c → (k : ℕ) → Runs n (pulses_of gate k c)
unfolding pulses_of
runs_on gate n c r zero = r
runs_on gate n c r (suc k) = runs_by gate n _ (runs_on gate n c r k)

goes_on : (gate : Bool) (n m : ℕ) (null : Bool) (low : Option ℕ) (c : CounterState) → Runs n c → (k : ℕ)
    → (pulses_of gate k (waiting c m null low) ≡ waiting (pulses_of gate k c) m null low)
    ⊎ HasTaken m (pulses_of gate k (waiting c m null low))
unfolding pulses_of
goes_on gate n m null low c r zero = inl refl
goes_on gate n m null low c r (suc k) =
    elim (goes_on gate n m null low c r k) [
      | inl e ↦ rw e (next_by gate (pulses_of gate k c) n m null low (runs_on gate n c r k))
      | inr taken ↦ inr (taken_by gate m _ taken)
    ]

-- after a write
after_write : (gate : Bool) (byte n k : ℕ) (c : CounterState) → is_periodic c.mode ≡ true → c.started ≡ true →
    c.count ≡ Some n → let d = write byte c in
    (pulses_of gate k d ≡ waiting (pulses_of gate k c) (unwrap_or d.count 0) d.null_count d.low_written)
    ⊎ HasTaken (unwrap_or d.count 0) (pulses_of gate k d)
after_write gate byte n k c p started count =
    let d = write byte c in
    rw (← waits byte n c p started count) at
    (goes_on gate n (unwrap_or d.count 0) d.null_count d.low_written c (record { periodic = p; count = count }) k)

pub count_waits : CountWaits
count_waits c gate byte n k p started count waits =
    let now = after_write gate byte n k c p started count in grind (arith, nat_tests)

pub count_is_taken : CountIsTaken
count_is_taken c gate byte n m k p started count null is taken =
    let now = after_write gate byte n k c p started count in grind (arith, nat_tests)
