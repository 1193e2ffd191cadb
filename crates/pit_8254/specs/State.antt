-- The state of the timer as bytes: counters 0 to 2, 31 bytes each, and the gate of counter 2.
use Rattle.std.specs.Prelude.{ℕ, ◌<◌, ◌≤◌, ◌==◌, ◌++◌, Bool, if◌then◌else◌, nat_lt, List, [], ◌∷◌, length, take, get_or}
use Rattle.std.specs.Prelude.{Option, is_some, unwrap_or}
use Rattle.std.specs.Int.{w8, w32, to_le_bytes}
use Rattle.byte_fields.specs.Fields.{Reading, gives, ◌>>=◌, within, flag_byte, flag_field, flag_where, optional}
use Rattle.byte_fields.specs.Fields.{bound_where, IsWithin}
use Rattle.device_spec.specs.Pit.{Mode, Access, LowByte, HighByte, LowThenHigh, Notation, CounterState, PitState}
use Rattle.device_spec.specs.Pit.{mode_number, mode_numbered, access_number, notation_number, notation_of_bit, bcd_bit}
use Rattle.pit_8254.specs.View.{mode_view, access_view, notation_view, latch_view}
use Rattle.pit_8254.specs.declared.state.Word.{Word as WordRead}
use Rattle.pit_8254.specs.declared.state.Counts.{Counts as CountsRead}
use Rattle.pit_8254.specs.declared.state.Latches.{Latches as LatchesRead}
use Rattle.pit_8254.specs.declared.state.Flags.{Flags as FlagsRead}
use Rattle.pit_8254.specs.Quiet.{HasCount, IsBounded, least_count, most_count}

-- ---- what the control word said: its mode, RW and BCD

pub record Word : Type 0 where
  pub mode : Mode
  pub access : Access
  pub notation : Notation

abbrev pub access_of : ℕ → Access
access_of n = if n == 1 then LowByte else (if n == 2 then HighByte else LowThenHigh)

abbrev pub word_bytes : Word → List ℕ
word_bytes word = mode_number word.mode ∷ access_number word.access ∷ notation_number word.notation ∷ []

unfoldable pub word_fields : Reading Word
word_fields = do
  mode ← within w8 0 5
  access ← within w8 1 3
  notation ← within w8 0 1
  gives (record { mode = mode_numbered mode; access = access_of access; notation = notation_of_bit (bcd_bit notation) })

-- ---- CE, the count in use, and the count written last

pub record Counts : Type 0 where
  pub element : ℕ
  pub in_use : ℕ
  pub count : Option ℕ

abbrev pub counts_bytes : Counts → List ℕ
counts_bytes counts =
    to_le_bytes w32 counts.element
    ++ (to_le_bytes w32 counts.in_use ++ flag_byte (is_some counts.count) ∷ to_le_bytes w32 (unwrap_or counts.count 0))

unfoldable pub counts_fields : Mode → Reading Counts
counts_fields mode = do
  element ← within w32 0 most_count
  in_use ← within w32 0 most_count
  count ← optional (within w32) (least_count mode) most_count
  gives (record { element = element; in_use = in_use; count = count })

pub record AreCounts (mode : Mode) (counts : Counts) : Type 0 where
  pub element : counts.element ≤ most_count
  pub in_use : counts.in_use ≤ most_count
  pub count : IsWithin (least_count mode) most_count counts.count

-- ---- what is latched or half written: a latched count is how many bytes of it are to be read, and these two bytes

pub record Latches : Type 0 where
  pub count_latch : List ℕ
  pub status_latch : Option ℕ
  pub reads_high : Bool
  pub low_written : Option ℕ

pub record IsLatch (bytes : List ℕ) : Type 0 where
  pub size : length bytes ≤ 2
  pub first : get_or bytes 0 0 < 256
  pub second : get_or bytes 1 0 < 256

abbrev pub latch_bytes : List ℕ → List ℕ
latch_bytes bytes = length bytes ∷ get_or bytes 0 0 ∷ get_or bytes 1 0 ∷ []

unfoldable pub latch_fields : Reading (List ℕ)
latch_fields = do
  size ← within w8 0 2
  first ← within w8 0 (bound_where (nat_lt 0 size) 255)
  second ← within w8 0 (bound_where (nat_lt 1 size) 255)
  gives (take size (first ∷ second ∷ []))

abbrev pub latches_bytes : Latches → List ℕ
latches_bytes latches =
    latch_bytes latches.count_latch
    ++ flag_byte (is_some latches.status_latch) ∷ unwrap_or latches.status_latch 0 ∷ flag_byte latches.reads_high
    ∷ flag_byte (is_some latches.low_written) ∷ unwrap_or latches.low_written 0 ∷ []

unfoldable pub latches_fields : Reading Latches
latches_fields = do
  count_latch ← latch_fields
  status_latch ← optional (within w8) 0 255
  reads_high ← flag_field
  low_written ← optional (within w8) 0 255
  gives (record {
    count_latch = count_latch;
    status_latch = status_latch;
    reads_high = reads_high;
    low_written = low_written;
  })

pub record AreLatches (latches : Latches) : Type 0 where
  pub count_latch : IsLatch latches.count_latch
  pub status_latch : IsWithin 0 255 latches.status_latch
  pub low_written : IsWithin 0 255 latches.low_written

-- ---- the flags: nothing asks for a load and nothing is started before a count was written

pub record Flags : Type 0 where
  pub null_count : Bool
  pub out : Bool
  pub load_asked : Bool
  pub started : Bool
  pub stopped : Bool
  pub expired : Bool
  pub trigger : Bool

abbrev pub flags_bytes : Flags → List ℕ
flags_bytes flags =
    flag_byte flags.null_count ∷ flag_byte flags.out ∷ flag_byte flags.load_asked ∷ flag_byte flags.started
    ∷ flag_byte flags.stopped
    ∷ flag_byte flags.expired ∷ flag_byte flags.trigger ∷ []

unfoldable pub flags_fields : (has_count : Bool) → Reading Flags
flags_fields has_count = do
  null_count ← flag_field
  out ← flag_field
  load_asked ← flag_where has_count
  started ← flag_where has_count
  stopped ← flag_field
  expired ← flag_field
  trigger ← flag_field
  gives (record {
    null_count = null_count;
    out = out;
    load_asked = load_asked;
    started = started;
    stopped = stopped;
    expired = expired;
    trigger = trigger;
  })

pub record AreFlags (has_count : Bool) (flags : Flags) : Type 0 where
  pub load_asked : flag_byte flags.load_asked ≤ flag_byte has_count
  pub started : flag_byte flags.started ≤ flag_byte has_count

-- ---- a counter

abbrev pub word_of : CounterState → Word
word_of c = record { mode = c.mode; access = c.access; notation = c.notation }

abbrev pub counts_of : CounterState → Counts
counts_of c = record { element = c.element; in_use = c.in_use; count = c.count }

abbrev pub latches_of : CounterState → Latches
latches_of c = record {
  count_latch = c.count_latch;
  status_latch = c.status_latch;
  reads_high = c.reads_high;
  low_written = c.low_written;
}

abbrev pub flags_of : CounterState → Flags
flags_of c = record {
  null_count = c.null_count;
  out = c.out;
  load_asked = c.load_asked;
  started = c.started;
  stopped = c.stopped;
  expired = c.expired;
  trigger = c.trigger;
}

pub record IsCounter (c : CounterState) : Type 0 where
  pub counted : HasCount c.mode c.count c.load_asked c.started
  pub bounded : IsBounded c.element c.in_use c.count
  pub latches : AreLatches (latches_of c)

abbrev pub counter_bytes : CounterState → List ℕ
counter_bytes c =
    word_bytes (word_of c)
    ++ (counts_bytes (counts_of c) ++ (latches_bytes (latches_of c) ++ flags_bytes (flags_of c)))

unfoldable pub counter_fields : Reading CounterState
counter_fields = do
  word ← word_fields
  counts ← counts_fields word.mode
  latches ← latches_fields
  flags ← flags_fields (is_some counts.count)
  gives (record {
    element = counts.element;
    count = counts.count;
    in_use = counts.in_use;
    mode = word.mode;
    access = word.access;
    notation = word.notation;
    null_count = flags.null_count;
    out = flags.out;
    count_latch = latches.count_latch;
    status_latch = latches.status_latch;
    reads_high = latches.reads_high;
    low_written = latches.low_written;
    load_asked = flags.load_asked;
    started = flags.started;
    stopped = flags.stopped;
    expired = flags.expired;
    trigger = flags.trigger;
  })

-- ---- the timer

pub record IsPit (pit : PitState) : Type 0 where
  pub counter0 : IsCounter pit.counter0
  pub counter1 : IsCounter pit.counter1
  pub counter2 : IsCounter pit.counter2

abbrev pub pit_bytes : PitState → List ℕ
pit_bytes pit =
    counter_bytes pit.counter0
    ++ (counter_bytes pit.counter1 ++ (counter_bytes pit.counter2 ++ flag_byte pit.gate2 ∷ []))

unfoldable pub pit_fields : Reading PitState
pit_fields = do
  counter0 ← counter_fields
  counter1 ← counter_fields
  counter2 ← counter_fields
  gate2 ← flag_field
  gives (record { counter0 = counter0; counter1 = counter1; counter2 = counter2; gate2 = gate2 })

-- ---- what the values of this crate stand for

abbrev pub word_view : WordRead → Word
word_view word = record {
  mode = mode_view word.mode;
  access = access_view word.access;
  notation = notation_view word.notation;
}

abbrev pub counts_view : CountsRead → Counts
counts_view counts = record { element = counts.element; in_use = counts.in_use; count = counts.count }

abbrev pub latches_view : LatchesRead → Latches
latches_view latches = record {
  count_latch = latch_view latches.count_latch;
  status_latch = latches.status_latch;
  reads_high = latches.reads_high;
  low_written = latches.low_written;
}

abbrev pub flags_view : FlagsRead → Flags
flags_view flags = record {
  null_count = flags.null_count;
  out = flags.out;
  load_asked = flags.load_asked;
  started = flags.started;
  stopped = flags.stopped;
  expired = flags.expired;
  trigger = flags.trigger;
}
