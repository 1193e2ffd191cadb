-- Latches, read-back and the bytes of a count of the 8254.
use Rattle.std.specs.Prelude.{◌≡◌, ℕ, zero, suc, ◌+◌, ◌<◌, ◌/◌, ◌%◌, Bool, true, false, if◌then◌else◌, List, [], ◌∷◌}
use Rattle.std.specs.Prelude.{None, length}
use Rattle.device_spec.specs.Pit.{Mode, Notation, Binary, Decimal, is_periodic, count_of_bytes, low_byte, high_byte}
use Rattle.device_spec.specs.Pit.{CounterState, PitState, element_bytes, latch_count, read_back, read, write}
use Rattle.device_spec.specs.Pit.{gate_rises, gate_falls, pulse, write_control}

-- A LATCHED COUNT

-- what may happen to a counter while a latched count waits to be read; a new control word would drop it
pub data Step : Type 0 where
  Write : (byte : ℕ) → Step
  GateRises : Step
  GateFalls : Step
  Pulse : (gate : Bool) → Step
  Latch : Step
  ReadBack : (word : ℕ) → Step

abbrev pub step_of : Step → CounterState → CounterState
step_of (Write byte) c = write byte c
step_of GateRises c = gate_rises c
step_of GateFalls c = gate_falls c
step_of (Pulse gate) c = pulse gate c
step_of Latch c = latch_count c
step_of (ReadBack word) c = read_back word c

abbrev pub after : List Step → CounterState → CounterState
after [] c = c
after (step ∷ steps) c = after steps (step_of step c)

-- the bytes that n reads answer
abbrev pub bytes_read : ℕ → CounterState → List ℕ
bytes_read zero c = []
bytes_read (suc n) c = (read c).0 ∷ bytes_read n (read c).1

-- what is latched is what was in CE when it was latched, whatever happens after it
abbrev pub LatchedCountStays : Type 0
LatchedCountStays =
    (c : CounterState) (steps : List Step)
    → c.count_latch ≡ []
    → (after steps (latch_count c)).count_latch ≡ element_bytes c

-- and that is what the reads give, once a latched status was read
abbrev pub LatchedCountIsRead : Type 0
LatchedCountIsRead =
    (c : CounterState) (steps : List Step)
    → c.count_latch ≡ []
    → bytes_read (length (element_bytes c)) (record (after steps (latch_count c)) { status_latch = None })
    ≡ element_bytes c

-- READ-BACK

-- the read-back command that latches the count, the status or both of the chosen counters
abbrev pub read_back_word : Bool → Bool → Bool → Bool → Bool → ℕ
read_back_word takes_count takes_status of_0 of_1 of_2 =
    192 + (if takes_count then 0 else 32) + (if takes_status then 0 else 16)
    + (if of_2 then 8 else 0) + (if of_1 then 4 else 0) + (if of_0 then 2 else 0)

abbrev pub when : Bool → (PitState → PitState) → PitState → PitState
when chosen f p = if chosen then f p else p

-- a read-back of several counters is one of each, after one another
abbrev pub ReadBackIsOneByOne : Type 0
ReadBackIsOneByOne =
    (takes_count takes_status of_0 of_1 of_2 : Bool) (p : PitState)
    → write_control (read_back_word takes_count takes_status of_0 of_1 of_2) p
    ≡ when of_2 (write_control (read_back_word takes_count takes_status false false true))
    (when of_1 (write_control (read_back_word takes_count takes_status false true false))
    (when of_0 (write_control (read_back_word takes_count takes_status true false false)) p))

-- a read-back of one counter's count is its counter latch command
pub record ReadBackIsLatch : Type 0 where
  pub of_0 : (p : PitState) → write_control (read_back_word true false true false false) p ≡ write_control 0 p
  pub of_1 : (p : PitState) → write_control (read_back_word true false false true false) p ≡ write_control 64 p
  pub of_2 : (p : PitState) → write_control (read_back_word true false false false true) p ≡ write_control 128 p

-- a read-back of count and status is one of each, in either order
abbrev pub ReadBackOfBoth : Type 0
ReadBackOfBoth =
    (of_0 of_1 of_2 : Bool) (p : PitState)
    → let count_of = write_control (read_back_word true false of_0 of_1 of_2) in
    let status_of = write_control (read_back_word false true of_0 of_1 of_2) in
    let both_of = write_control (read_back_word true true of_0 of_1 of_2) in
    (both_of p ≡ status_of (count_of p)) × (both_of p ≡ count_of (status_of p))

-- THE BYTES OF A COUNT

-- a byte whose digits are digits
abbrev pub IsByteOf : Notation → ℕ → Type 0
IsByteOf Binary byte = byte < 256
IsByteOf Decimal byte = (byte / 16 < 10) × (byte % 16 < 10)

-- a count reads as the bytes that were written; 0 too, which is M. Only the count 1 of a periodic mode reads as 2
abbrev pub CountReadsAsWritten : Type 0
CountReadsAsWritten =
    (mode : Mode) (notation : Notation) (low high : ℕ)
    → is_periodic mode ≡ false
    → IsByteOf notation low
    → IsByteOf notation high
    → let count = count_of_bytes mode notation low high in
    (low_byte notation count ≡ low) × (high_byte notation count ≡ high)
