-- The rate generator and the square wave repeat.
use Rattle.std.proofs.Common.{◌≡◌, ℕ, zero, suc, ◌+◌, ◌-◌, ◌*◌, ◌/◌, ◌%◌, ◌<◌, ◌==◌, ◌&&◌, not, Bool, true, false, cond}
use Rattle.std.proofs.Common.{refl, ap, ◌∙◌, arith}
use Rattle.std.proofs.lemmas.Bool.Decides.{nat_tests}
use Rattle.device_spec.specs.Pit.{RateGenerator, SquareWave, CounterState, load, count_down, count_to_reload}
use Rattle.device_spec.specs.Pit.{count_half, pulse_by_mode, pulse}
use Rattle.device_spec.specs.PitLaws.{pulses_of}
use Rattle.device_spec.specs.PitPeriods.{IsAtLoad, RateRepeats, SquareRepeats}

-- the counter at another place of its period
abbrev pub phase : CounterState → ℕ → Bool → CounterState
phase c e level = record c { element = e; out = level }

pub phase-self : (c : CounterState) (e : ℕ) (level : Bool) → c.element ≡ e → c.out ≡ level → phase c e level ≡ c
phase-self c e level h g = rw (← h, ← g) refl

-- THE RATE GENERATOR

module _ (n : ℕ) (c : CounterState) (s : IsAtLoad RateGenerator n true c) where
  rate-high : (k : ℕ) → k + 1 < n → pulses_of true k c ≡ phase c (n - k) true
  unfolding pulses_of pulse pulse_by_mode count_to_reload count_down
  rate-high zero h = grind (arith, nat_tests, phase-self)
  rate-high (suc k) h = grind (arith, nat_tests, phase-self, rate-high k (omega arith))

  rate-low : (j : ℕ) → n ≡ suc (suc j) → pulses_of true (suc j) c ≡ phase c 1 false
  unfolding pulses_of pulse pulse_by_mode count_to_reload count_down
  rate-low j e =
      let two : n - j ≡ 2 = omega arith in
      ap (pulse true) (rate-high j (omega arith) ∙ ap (λ x. phase c x true) two)
      ∙ rw (s.mode, s.load_asked, s.trigger, s.started) refl

  rate-again : (j : ℕ) → n ≡ suc (suc j) → pulses_of true (suc (suc j)) c ≡ c
  unfolding pulses_of pulse pulse_by_mode count_to_reload load
  rate-again j e = grind (arith, nat_tests, rate-low, phase-self)

pub rate_repeats : RateRepeats
rate_repeats n c least s =
    let is_suc : n ≡ suc (suc (n - 2)) = omega arith in
    let before : n - 1 ≡ suc (n - 2) = omega arith in
    record {
      high = λ k h. ap (λ x. x.out) (rate-high n c s k h);
      low = ap (λ k. (pulses_of true k c).out) before ∙ ap (λ x. x.out) (rate-low n c s (n - 2) is_suc);
      again = ap (λ k. pulses_of true k c) is_suc ∙ rate-again n c s (n - 2) is_suc;
    }

-- THE SQUARE WAVE

abbrev end_of : Bool → ℕ → ℕ
end_of level n = cond (level && n % 2 == 1) 0 2

module _ (n : ℕ) (c : CounterState) (s : IsAtLoad SquareWave n true c) where
  square_counts : (e : ℕ) (level : Bool) → (e == end_of level n) ≡ false →
      pulse true (phase c e level) ≡ phase c (e - 2) level
  unfolding pulse pulse_by_mode count_half
  square_counts e level h = rw (s.mode, s.load_asked, s.trigger, s.started, s.in_use, h) refl

  square_flips : (e : ℕ) (level : Bool) → (e == end_of level n) ≡ true →
      pulse true (phase c e level) ≡ phase c (n - n % 2) (not level)
  unfolding pulse pulse_by_mode count_half load
  square_flips e level h =
      rw (s.mode, s.load_asked, s.trigger, s.started, s.in_use, h, s.count, s.null_count, s.expired) refl

  -- the end of the first half by whether n is odd
  at_end : (e : ℕ) → (n % 2 ≡ 1 → e ≡ 0) → (n % 2 ≡ 0 → e ≡ 2) → (e == end_of true n) ≡ true
  at_end e odd even = grind (arith, nat_tests)

  square-high : (k : ℕ) → k < n - n / 2 → pulses_of true k c ≡ phase c (n - n % 2 - 2 * k) true
  unfolding pulses_of
  square-high zero h = grind (arith, nat_tests, phase-self, square_counts)
  square-high (suc k) h = grind (arith, nat_tests, phase-self, square_counts, square-high k (omega arith))

  square-low : (a : ℕ) → n - n / 2 ≡ suc a → (j : ℕ) → j < n / 2 →
      pulses_of true (suc a + j) c ≡ phase c (n - n % 2 - 2 * j) false
  unfolding pulses_of
  square-low a q zero h =
      let here : suc a + zero ≡ suc a = omega arith in
      ap (λ k. pulses_of true k c) here
      ∙ (ap (pulse true) (square-high a (omega arith))
      ∙ (square_flips (n - n % 2 - 2 * a) true (at_end (n - n % 2 - 2 * a) (λ o. omega arith) (λ o. omega arith))
      ∙ ap (λ e. phase c e false) (omega arith)))
  square-low a q (suc j) h =
      let ahead : 2 < n - n % 2 - 2 * j = omega arith in
      let next : suc a + suc j ≡ suc (suc a + j) = omega arith in
      ap (λ k. pulses_of true k c) next
      ∙ (ap (pulse true) (square-low a q j (omega arith))
      ∙ (square_counts (n - n % 2 - 2 * j) false (grind (arith, nat_tests)) ∙ ap (λ e. phase c e false) (omega arith)))

  square-again : (a j : ℕ) → n - n / 2 ≡ suc a → n / 2 ≡ suc j → pulses_of true n c ≡ c
  unfolding pulses_of
  square-again a j q r =
      let two : n - n % 2 - 2 * j ≡ 2 = omega arith in
      let whole : n ≡ suc (suc a + j) = omega arith in
      ap (λ k. pulses_of true k c) whole
      ∙ (ap (pulse true) (square-low a q j (omega arith) ∙ ap (λ e. phase c e false) two)
      ∙ (square_flips 2 false refl ∙ phase-self c (n - n % 2) true s.element s.out))

pub square_repeats : SquareRepeats
square_repeats n c least s =
    let a : ℕ = n - n / 2 - 1 in
    let j : ℕ = n / 2 - 1 in
    let q : n - n / 2 ≡ suc a = omega arith in
    let r : n / 2 ≡ suc j = omega arith in
    record {
      high = λ k h. ap (λ x. x.out) (square-high n c s k h);
      low = λ k g h.
          ap (λ i. (pulses_of true i c).out) (let e : k ≡ suc a + (k - suc a) = omega arith in e)
          ∙ ap (λ x. x.out) (square-low n c s a q (k - suc a) (omega arith));
      again = square-again n c s a j q r;
    }
