-- A latched count stays until it is read, and a read-back is one latch after another.
use Rattle.std.proofs.Common.{◌≡◌, ℕ, Bool, List, [], ◌∷◌, length, None, refl, sym, ◌∙◌, arith, true}
use Rattle.board_prelude.proofs.{nat_tests, access_numbered, status_byte, control, read_back_chosen, write_control}
use Rattle.device_spec.specs.Pit.{Access, LowByte, HighByte, LowThenHigh, CounterState, low_byte, high_byte}
use Rattle.device_spec.specs.Pit.{element_bytes, latch_count, latch_status, read_back, read, complete, take_low}
use Rattle.device_spec.specs.Pit.{take_byte, write, gate_rises, gate_falls, load, count_down, count_to_end}
use Rattle.device_spec.specs.Pit.{count_to_reload, count_half, count_to_strobe, pulse_by_mode, pulse}
use Rattle.board_laws.specs.PitLaws.{after, Step, step_of, bytes_read, LatchedCountStays, LatchedCountIsRead}
use Rattle.board_laws.specs.PitLaws.{ReadBackIsOneByOne, ReadBackIsLatch, ReadBackOfBoth}

-- WHAT LEAVES THE LATCH OF THE COUNT ALONE

write-latch : (byte : ℕ) (c : CounterState) → (write byte c).count_latch ≡ c.count_latch
unfolding write take_byte take_low complete
write-latch byte c = grind (arith, nat_tests)

pulse-latch : (gate : Bool) (c : CounterState) → (pulse gate c).count_latch ≡ c.count_latch
unfolding pulse pulse_by_mode load count_down count_to_end count_to_reload count_half count_to_strobe
pulse-latch gate c = grind (arith, nat_tests)

-- A LATCH THAT IS HELD

pub latch_count-held : (c : CounterState) (b : ℕ) (bs : List ℕ) → c.count_latch ≡ b ∷ bs → latch_count c ≡ c
unfolding latch_count
latch_count-held c b bs h = rw h refl

-- a latch holds a byte at least
element_bytes-cons : (a : Access) (c : CounterState) → c.access ≡ a → (b : ℕ) × (bs : List ℕ)
    × (element_bytes c ≡ b ∷ bs)
unfolding element_bytes
element_bytes-cons LowByte c h = (low_byte c.notation c.element, [], rw h refl)
element_bytes-cons HighByte c h = (high_byte c.notation c.element, [], rw h refl)
element_bytes-cons LowThenHigh c h = (low_byte c.notation c.element, high_byte c.notation c.element ∷ [], rw h refl)

step_of-held : (s : Step) (c : CounterState) (b : ℕ) (bs : List ℕ) → c.count_latch ≡ b ∷ bs →
    (step_of s c).count_latch ≡ c.count_latch
unfolding gate_rises gate_falls latch_status read_back
step_of-held x0 c b bs h = grind (arith, nat_tests, write-latch, pulse-latch, latch_count-held)

after-held : (steps : List Step) (c : CounterState) (b : ℕ) (bs : List ℕ) → c.count_latch ≡ b ∷ bs →
    (after steps c).count_latch ≡ b ∷ bs
unfolding pulse pulse_by_mode load count_down count_to_end count_to_reload count_half count_to_strobe latch_count
    gate_rises gate_falls latch_status read_back write take_byte take_low complete
after-held [] c b bs h = grind (arith, nat_tests)
after-held (s ∷ steps) c b bs h = grind (
  arith,
  nat_tests,
  after-held steps (step_of s c) b bs
      (step_of-held s c b bs h ∙ h),
)

pub latched_count_stays : LatchedCountStays
unfolding latch_count
latched_count_stays c steps h =
    let held = element_bytes-cons c.access c refl in
    let latched : (latch_count c).count_latch ≡ element_bytes c = rw h refl in
    after-held steps (latch_count c) held.0 held.1 (latched ∙ held.2) ∙ sym held.2

-- READING WHAT IS LATCHED

bytes_read-latched : (bytes : List ℕ) (c : CounterState) → c.status_latch ≡ None → c.count_latch ≡ bytes →
    bytes_read (length bytes) c ≡ bytes
unfolding read
bytes_read-latched [] c s h = grind (arith, nat_tests)
bytes_read-latched (b ∷ bs) c s h = grind (
  arith,
  nat_tests,
  bytes_read-latched bs (record c { count_latch = bs }) s
      refl,
)

pub latched_count_is_read : LatchedCountIsRead
latched_count_is_read c steps h = bytes_read-latched (element_bytes c) _ refl (latched_count_stays c steps h)

-- READING BACK

pub one_by_one : ReadBackIsOneByOne
unfolding write_control read_back_chosen read_back
one_by_one true true true true true p = refl
one_by_one _ true true true true p = refl
one_by_one _ _ true true true p = refl
one_by_one _ _ _ true true p = refl
one_by_one _ _ _ _ true p = refl
one_by_one _ _ _ _ _ p = refl

pub is_latch : ReadBackIsLatch
unfolding write_control read_back_chosen read_back control access_numbered
is_latch = record { of_0 = λ p. refl; of_1 = λ p. refl; of_2 = λ p. refl }

-- the two latches do not see one another
commute : (c : CounterState) → latch_status (latch_count c) ≡ latch_count (latch_status c)
unfolding latch_count latch_status element_bytes status_byte
commute c = grind (arith, nat_tests)

pub of_both : ReadBackOfBoth
unfolding write_control read_back_chosen read_back
of_both true true true p = (refl, grind (arith, nat_tests, commute))
of_both a true true p = (refl, grind (arith, nat_tests, commute))
of_both a b true p = (refl, grind (arith, nat_tests, commute))
of_both a b c p = (refl, grind (arith, nat_tests, commute))

-- `read_back_is_single_latches` is proved by these
pub ruleset read_back_is_single_latches_rules = (one_by_one, is_latch, of_both)
