-- The values of cycles, one after the other, make the value of the whole.
use Rattle.std.proofs.Common.{◌≡◌, ℕ, suc, ◌+◌, ◌*◌, ◌%◌, ◌^◌, ◌<◌, ◌≤◌, List, [], ◌∷◌, length, get_or, drop, bit_or}
use Rattle.std.proofs.Common.{refl, arith, map}
use Rattle.board_prelude.proofs.{nat_tests, drop-cons, mod-eq_of_lt, pow-le-pow_right, pow-add, bytes_of, some_bytes}
use Rattle.board_prelude.proofs.{Entry, Setup, joined, Covers, value_at, memory_target, part_answer}
use Rattle.std.proofs.Math.Nat.{mul_comm, mul_assoc, add_assoc, mul-one, mul-add, mul-le-mul_left}
use Rattle.std.specs.Int.Bits.{or_shifted_r}
use Rattle.board_stores.specs.declared.cut.Cycle.{Cycle}
use Rattle.board_stores.specs.Cycles.{accesses, answers}
use Rattle.board_stores.proofs.CutLemmas.{byte_power}

-- ---- how many bytes

-- cycles that are left lie within the eight bytes of a value, of which some bits are passed
abbrev pub IsLeft : List Cycle → (shift : ℕ) → Type 0
IsLeft cycles shift = (from end : ℕ) × Covers from end (accesses cycles) × (shift + 8 * end ≤ 8 * from + 64)

ends_above : (from end : ℕ) (cycles : List Cycle) → Covers from end (accesses cycles) → from ≤ end
ends_above from end [] is = let e : from ≡ end = is in omega arith
ends_above from end (cycle ∷ later) is =
    let e = ends_above (from + bytes_of cycle.access.width) end later is.1 in omega arith

pub next_left : (cycles : List Cycle) (i shift bytes : ℕ) (d : Cycle) → i < length cycles →
    bytes ≡ bytes_of (get_or cycles i d).access.width → IsLeft (drop i cycles) shift →
    (shift + 8 * bytes ≤ 64) × IsLeft (drop (i + 1) cycles) (shift + 8 * bytes)
next_left cycles i shift bytes d within bytes_is left =
    let one : i + 1 ≡ suc i = omega arith in
    let is = rw (drop-cons cycles i d within) at left in
    let from : ℕ = is.0 + bytes_of (get_or cycles i d).access.width in
    let above : from ≤ is.1 = ends_above from is.1 (drop (suc i) cycles) is.2.1 in
    let room = is.3 in
    (omega arith, rw one (from, is.1, is.2.1, omega arith))

pub shift_below : (cycles : List Cycle) (i shift : ℕ) → i < length cycles → IsLeft (drop i cycles) shift → shift < 64
shift_below [] i shift within left = absurd (omega arith)
shift_below (first ∷ later) i shift within left =
    let next = next_left (first ∷ later) i shift _ first within refl left in
    omega (arith, next.0, some_bytes (get_or (first ∷ later) i first).access.width)

-- ---- the values

abbrev pub value_of : Setup → List Entry → Cycle → ℕ
value_of setup history cycle = value_at setup history cycle.answer.target cycle.access.addr cycle.access.width

abbrev pub joined_cycles : (Cycle → ℕ) → List Cycle → ℕ
joined_cycles value [] = 0
joined_cycles value (cycle ∷ later) = value cycle + 256 ^ bytes_of cycle.access.width * joined_cycles value later

-- cycles that are answered as the parts of an access have its value
pub joined_parts :
    (setup : Setup) (history : List Entry) (cycles : List Cycle) → answers cycles
    ≡ map (part_answer setup history) (accesses cycles) →
    joined_cycles (value_of setup history) cycles
    ≡ joined (λ part. value_at setup history (memory_target setup history part) part.addr part.width) (accesses cycles)
unfolding part_answer
joined_parts setup history [] is = refl
joined_parts setup history (cycle ∷ later) is =
    let rest = joined_parts setup history later in grind (arith, nat_tests)

-- ---- one cycle more

-- the value of the cycles so far, and of those that are left
pub record IsSoFar (value : Cycle → ℕ) (cycles : List Cycle) (i so_far shift : ℕ) : Type 0 where
  pub below : so_far < 2 ^ shift
  pub sum : so_far + 2 ^ shift * joined_cycles value (drop i cycles) ≡ joined_cycles value cycles

-- a product of powers
longer : (shift bytes : ℕ) → 2 ^ (shift + 8 * bytes) ≡ 2 ^ shift * 256 ^ bytes
longer shift bytes = rw (pow-add 2 shift (8 * bytes), byte_power bytes) refl

-- a value above the bits before it
value_or :
    (so_far shift read bytes : ℕ) → so_far < 2 ^ shift → read < 256 ^ bytes → shift + 8 * bytes ≤ 64 →
    (bit_or so_far (read * 2 ^ shift % 2 ^ 64) ≡ so_far + 2 ^ shift * read) ×
    (so_far + 2 ^ shift * read < 2 ^ shift * 256 ^ bytes)
value_or so_far shift read bytes below fits short =
    let P : ℕ = 2 ^ shift in
    let more : read + 1 ≤ 256 ^ bytes = omega arith in
    let whole : so_far + P * read < P * 256 ^ bytes =
    omega (arith, mul-le-mul_left P more, mul-add P read 1, mul-one P) in
    let most : P * 256 ^ bytes ≤ 2 ^ 64 = rw (← longer shift bytes) (pow-le-pow_right (omega arith) short) in
    let turned = mul_comm read P in
    let room : read * P < 2 ^ 64 = omega arith in
    (rw (mod-eq_of_lt room, or_shifted_r read shift so_far below) (omega arith), whole)

pub next_value : (value : Cycle → ℕ) (cycles : List Cycle) (i so_far shift read : ℕ) (d : Cycle) → i < length cycles →
    read ≡ value (get_or cycles i d) → read < 256 ^ bytes_of (get_or cycles i d).access.width →
    shift + 8 * bytes_of (get_or cycles i d).access.width ≤ 64 → IsSoFar value cycles i so_far shift →
    IsSoFar value cycles (i + 1) (bit_or so_far (read * 2 ^ shift % 2 ^ 64))
    (shift + 8 * bytes_of (get_or cycles i d).access.width)
next_value value cycles i so_far shift read d within is fits short before =
    let bytes = bytes_of (get_or cycles i d).access.width in
    let J = joined_cycles value (drop (i + 1) cycles) in
    let one_more : i + 1 ≡ suc i = omega arith in
    let joined_at : joined_cycles value (drop i cycles) ≡ read + 256 ^ bytes * J =
    rw (one_more, drop-cons cycles i d within, is) refl in
    let next = value_or so_far shift read bytes before.below fits short in
    record {
      below = rw (next.0, longer shift bytes) next.1;
      sum =
          rw (next.0, longer shift bytes, gathered so_far (2 ^ shift) read (256 ^ bytes) J)
          (rw joined_at at before.sum);
    }
  where
    gathered : (so_far P read B J : ℕ) → so_far + P * read + P * B * J ≡ so_far + P * (read + B * J)
    gathered so_far P read B J =
        rw (mul_assoc P B J, add_assoc so_far (P * read) (P * (B * J)), mul-add P read (B * J)) refl

-- where no cycle is left
pub whole_value : (value : Cycle → ℕ) (cycles : List Cycle) (i so_far shift : ℕ) → drop i cycles ≡ [] →
    IsSoFar value cycles i so_far shift → so_far ≡ joined_cycles value cycles
whole_value value cycles i so_far shift end is =
    let sum = rw end at is.sum in omega (arith, sum)
