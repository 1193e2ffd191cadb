-- The state of the timer is spelled and read back.
use Rattle.std.proofs.lemmas.Bool.Decides.{nat_tests}
use Rattle.std.proofs.Common.{◌≡◌, ℕ, ◌≤◌, Bool, List, [], ◌∷◌, length, take, get_or, is_some, refl, arith, nat_lt}
use Rattle.device_spec.specs.Pit.{Mode, mode_number, mode_numbered, access_number, notation_number}
use Rattle.byte_fields.specs.Fields.{bound_where}
use Rattle.byte_fields.proofs.Formats.{IsFormat, fields_format, ◌then◌, ◌&◌, last_field}
use Rattle.byte_fields.proofs.Numbers.{Any, byte_to, number_to, byte_within, within_format, wide32, flag_format}
use Rattle.byte_fields.proofs.Numbers.{flag_where_format, optional_format, bound_where-small}
use Rattle.pit_8254.specs.Quiet.{least_count, most_count}
use Rattle.pit_8254.specs.State.{word_bytes, word_fields, counts_bytes, counts_fields, AreCounts, IsLatch, latch_bytes}
use Rattle.pit_8254.specs.State.{latch_fields, AreLatches, latches_bytes, latches_fields, AreFlags, flags_bytes}
use Rattle.pit_8254.specs.State.{flags_fields, word_of, counts_of, latches_of, flags_of, IsCounter, counter_bytes}
use Rattle.pit_8254.specs.State.{counter_fields, IsPit, pit_bytes, pit_fields}

-- ---- the word

word_format : IsFormat 3 word_fields word_bytes Any
unfolding word_fields mode_numbered
word_format =
    fields_format
    (byte_to 5 (omega arith) then λ mode good.
    byte_within 1 3 (omega arith) then λ access good.
    last_field _ (byte_to 1 (omega arith)))
    (λ w any. (
      (mode_number w.mode, (grind (arith, nat_tests))) & (access_number w.access, (grind (arith, nat_tests)))
          & (notation_number w.notation, (grind (arith, nat_tests))),
      grind (arith, nat_tests),
    ))
    (λ t. (tt, grind (arith, nat_tests, t.1, t.2.1, t.2.2.1)))

-- ---- the counts

counts_format : (mode : Mode) → IsFormat 13 (counts_fields mode) counts_bytes (AreCounts mode)
unfolding counts_fields
counts_format mode =
    fields_format
    (number_to wide32 most_count (omega arith) then λ element good.
    number_to wide32 most_count (omega arith) then λ in_use good.
    last_field _ (optional_format (within_format wide32) (least_count mode) most_count (omega arith)))
    (λ c is. ((c.element, is.element) & (c.in_use, is.in_use) & (c.count, is.count), refl))
    (λ t. (record { element = t.1; in_use = t.2.1; count = t.2.2.1 }, refl))

-- ---- what is latched

latch_to : (bytes : List ℕ) → IsLatch bytes →
    (get_or bytes 0 0 ≤ bound_where (nat_lt 0 (length bytes)) 255)
    × (get_or bytes 1 0 ≤ bound_where (nat_lt 1 (length bytes)) 255)
    × (bytes ≡ take (length bytes) (get_or bytes 0 0 ∷ get_or bytes 1 0 ∷ []))
latch_to [] is = (omega arith, omega arith, refl)
latch_to (first ∷ []) is = (omega (arith, is.first), omega arith, refl)
latch_to (first ∷ second ∷ []) is = (omega (arith, is.first), omega (arith, is.second), refl)
latch_to (first ∷ second ∷ third ∷ later) is = absurd (omega (arith, is.size))

latch_format : IsFormat 3 latch_fields latch_bytes IsLatch
unfolding latch_fields
latch_format =
    fields_format
    (byte_to 2 (omega arith) then λ size good.
    byte_to (bound_where (nat_lt 0 size) 255) (bound_where-small (nat_lt 0 size)) then λ first good.
    last_field _ (byte_to (bound_where (nat_lt 1 size) 255) (bound_where-small (nat_lt 1 size))))
    (λ bytes is.
    let told = latch_to bytes is in
    ((length bytes, is.size) & (get_or bytes 0 0, told.0) & (get_or bytes 1 0, told.1), told.2))
    (λ t. grind (arith, nat_tests, t.1, t.2.1, t.2.2.1))

latches_format : IsFormat 8 latches_fields latches_bytes AreLatches
unfolding latches_fields
latches_format =
    fields_format
    (latch_format then λ count_latch good.
    optional_format byte_within 0 255 (omega arith) then λ status_latch good.
    flag_format then λ reads_high good.
    last_field _ (optional_format byte_within 0 255 (omega arith)))
    (λ l is. (
      (l.count_latch, is.count_latch) & (l.status_latch, is.status_latch) & (l.reads_high, tt)
          & (l.low_written, is.low_written),
      refl,
    ))
    (λ t. (record { count_latch = t.1; status_latch = t.2.1; low_written = t.2.2.2.1 }, refl))

-- ---- the flags

flags_format : (has_count : Bool) → IsFormat 7 (flags_fields has_count) flags_bytes (AreFlags has_count)
unfolding flags_fields
flags_format has_count =
    fields_format
    (flag_format then λ null_count good.
    flag_format then λ out good.
    flag_where_format has_count then λ load_asked good.
    flag_where_format has_count then λ started good.
    flag_format then λ stopped good.
    flag_format then λ expired good.
    last_field _ flag_format)
    (λ f is. (
      (f.null_count, tt) & (f.out, tt) & (f.load_asked, is.load_asked) & (f.started, is.started) & (f.stopped, tt)
          & (f.expired, tt) & (f.trigger, tt),
      refl,
    ))
    (λ t. (record { load_asked = t.2.2.1; started = t.2.2.2.1 }, refl))

-- ---- a counter

counter_format : IsFormat 31 counter_fields counter_bytes IsCounter
unfolding counter_fields
counter_format =
    fields_format
    (word_format then λ word good.
    counts_format word.mode then λ counts good.
    latches_format then λ latches good.
    last_field _ (flags_format (is_some counts.count)))
    (λ c is. (
      (word_of c, tt) & (counts_of c, (grind (arith, nat_tests, is.counted, is.bounded))) & (latches_of c, is.latches)
          & (flags_of c, (grind (arith, nat_tests, is.counted))),
      refl,
    ))
    (λ t. (grind (arith, nat_tests, t.2.1, t.2.2.1, t.2.2.2.1), refl))

pub pit_format : IsFormat 94 pit_fields pit_bytes IsPit
unfolding pit_fields
pit_format =
    fields_format
    (counter_format then λ counter0 good.
    counter_format then λ counter1 good.
    counter_format then λ counter2 good.
    last_field _ flag_format)
    (λ p is. ((p.counter0, is.counter0) & (p.counter1, is.counter1) & (p.counter2, is.counter2) & (p.gate2, tt), refl))
    (λ t. (record { counter0 = t.1; counter1 = t.2.1; counter2 = t.2.2.1 }, refl))
