-- Whole counts of the 8254, from the pulse that loads them on.
use Rattle.std.specs.Prelude.{◌≡◌, ◌≢◌, ℕ, ◌<◌, ◌≤◌, Bool, true, false, not, ◌&&◌, ◌||◌, Some}
use Rattle.board_prelude.specs.{Mode, TerminalCount, OneShot, RateGenerator, SquareWave, SoftwareStrobe, HardwareStrobe}
use Rattle.board_prelude.specs.{CounterState, is_periodic, write, pulse, pulses_of, IsAtLoad}

-- whether the next pulse loads: by a count that was written, by a rise of the gate, or by either
abbrev pub is_to_load : Mode → CounterState → Bool
is_to_load TerminalCount c = c.load_asked && not c.stopped
is_to_load OneShot c = c.trigger
is_to_load RateGenerator c = c.load_asked || c.trigger
is_to_load SquareWave c = c.load_asked || c.trigger
is_to_load SoftwareStrobe c = c.load_asked
is_to_load HardwareStrobe c = c.trigger

-- OUT after a load: in mode 0 it stays, in mode 1 it is 0, and in the others 1
abbrev pub out_at_load : Mode → Bool → Bool
out_at_load TerminalCount level = level
out_at_load OneShot level = false
out_at_load _ level = true

-- The pulse that loads, whatever the gate.
abbrev pub PulseLoads : Type 0
PulseLoads =
    (mode : Mode) (gate : Bool) (n : ℕ) (c : CounterState) → c.mode ≡ mode → c.count ≡ Some n
    → is_to_load mode c ≡ true → IsAtLoad mode n (out_at_load mode c.out) (pulse gate c)

-- MODES 0 AND 1: ONE END

-- OUT is 0 until the n-th pulse, and 1 from it on
pub record EndsOnce (gate : Bool) (n : ℕ) (c : CounterState) : Type 0 where
  pub low : (k : ℕ) → k < n → (pulses_of gate k c).out ≡ false
  pub high : (k : ℕ) → n ≤ k → (pulses_of gate k c).out ≡ true

-- in mode 0 with the gate at 1, and in mode 1 whatever the gate
pub record CountsEndOnce : Type 0 where
  pub terminal_count :
      (n : ℕ) (c : CounterState) → 1 ≤ n → IsAtLoad TerminalCount n false c → c.stopped ≡ false → EndsOnce true n c
  pub one_shot : (gate : Bool) (n : ℕ) (c : CounterState) → 1 ≤ n → IsAtLoad OneShot n false c → EndsOnce gate n c

-- MODES 4 AND 5: ONE STROBE

-- OUT is 0 after the n-th pulse, and 1 after every other one, however many follow
pub record StrobesOnce (gate : Bool) (n : ℕ) (c : CounterState) : Type 0 where
  pub low : (pulses_of gate n c).out ≡ false
  pub high : (k : ℕ) → k ≢ n → (pulses_of gate k c).out ≡ true

-- in mode 4 with the gate at 1, and in mode 5 whatever the gate
pub record CountsStrobeOnce : Type 0 where
  pub software : (n : ℕ) (c : CounterState) → 1 ≤ n → IsAtLoad SoftwareStrobe n true c → StrobesOnce true n c
  pub hardware :
      (gate : Bool) (n : ℕ) (c : CounterState) → 1 ≤ n → IsAtLoad HardwareStrobe n true c → StrobesOnce gate n c

-- A COUNT THAT IS WRITTEN IN A PERIOD

-- the counter as it goes on counting is the same
pub record GoesOnAlike (one other : CounterState) : Type 0 where
  pub element : one.element ≡ other.element
  pub in_use : one.in_use ≡ other.in_use
  pub out : one.out ≡ other.out

-- Until the next load, by which null count becomes 0, the counter goes on as if nothing had been written.
abbrev pub CountWaits : Type 0
CountWaits =
    (c : CounterState) (gate : Bool) (byte n k : ℕ) → is_periodic c.mode ≡ true → c.started ≡ true → c.count ≡ Some n
    → (pulses_of gate k (write byte c)).null_count ≡ true
    → GoesOnAlike (pulses_of gate k c) (pulses_of gate k (write byte c))

-- From that load on the new count is in use.
abbrev pub CountIsTaken : Type 0
CountIsTaken =
    (c : CounterState) (gate : Bool) (byte n m k : ℕ) → is_periodic c.mode ≡ true → c.started ≡ true → c.count ≡ Some n
    → (write byte c).null_count ≡ true → (write byte c).count ≡ Some m
    → (pulses_of gate k (write byte c)).null_count ≡ false → (pulses_of gate k (write byte c)).in_use ≡ m
