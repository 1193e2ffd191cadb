-- The 8254 programmable interval timer, in the terms of its datasheet: three counters and the control word register.
-- Each step gives the state after it from the state before; a read gives the byte that it answers beside it.
-- This board's own choices are marked (choice).
use Rattle.std.specs.Prelude.{ℕ, zero, suc, ◌+◌, ◌-◌, ◌*◌, ◌/◌, ◌%◌, ◌≤◌, ◌==◌, Bool, true, false, not, ◌&&◌, ◌||◌}
use Rattle.std.specs.Prelude.{if◌then◌else◌, List, [], ◌∷◌, Option, Some, None, is_some}
use Rattle.board_base.specs.Bits.{is_bit}
use Rattle.device_spec.specs.PortNames.{counter0_port, counter1_port, counter2_port, timer_ports}

-- ONE COUNTER

-- the counting modes, 0 to 5 (8254, Mode Definitions)
pub data Mode : Type 0 where
  TerminalCount : Mode
  OneShot : Mode
  RateGenerator : Mode
  SquareWave : Mode
  SoftwareStrobe : Mode
  HardwareStrobe : Mode

-- RW: which bytes of a count are read and written (8254, Control Word Format)
pub data Access : Type 0 where
  LowByte : Access
  HighByte : Access
  LowThenHigh : Access

-- how a byte of a count is coded: 256 values, or two decimal digits (8254, Control Word Format, BCD)
pub data Notation : Type 0 where
  Binary : Notation
  Decimal : Notation

-- one counter (8254, Internal Block Diagram of a Counter: CE, CR, OL and the status register)
pub record CounterState : Type 0 where
  -- CE, the counting element: the present value
  pub element : ℕ
  -- the count written last, since the control word
  pub count : Option ℕ
  -- the count in use: the one loaded last
  pub in_use : ℕ
  pub mode : Mode
  pub access : Access
  pub notation : Notation
  -- the null count flag: the count written last is not loaded yet
  pub null_count : Bool
  -- the level of OUT
  pub out : Bool
  -- of a latched count, the bytes that are still to be read
  pub count_latch : List ℕ
  pub status_latch : Option ℕ
  -- the next live read gives the high byte
  pub reads_high : Bool
  -- the low byte written, where the high one is still to come
  pub low_written : Option ℕ
  pub load_asked : Bool
  pub started : Bool
  pub stopped : Bool
  -- the count came to 0 since the load: a strobe is given once
  pub expired : Bool
  -- the gate rose since the last pulse
  pub trigger : Bool

-- THE BYTES OF A COUNT

-- how many values a byte of a count has
abbrev pub byte_values : Notation → ℕ
byte_values Binary = 256
byte_values Decimal = 100

-- M: a counter counts modulo M (8254, Operation Common to All Modes, Counter)
abbrev pub modulus : Notation → ℕ
modulus Binary = 65536
modulus Decimal = 10000

-- the value that a byte stands for; a digit above 9 is taken less 10 (choice)
abbrev pub byte_value : Notation → ℕ → ℕ
byte_value Binary byte = byte
byte_value Decimal byte = 10 * (byte / 16 % 10) + byte % 16 % 10

-- the byte of a value: in decimal, one digit in each half
abbrev pub byte_of_value : Notation → ℕ → ℕ
byte_of_value Binary n = n
byte_of_value Decimal n = 16 * (n / 10) + n % 10

-- the low and the high byte of a value modulo M
unfoldable pub low_byte : Notation → ℕ → ℕ
low_byte notation n = byte_of_value notation (n % byte_values notation)

unfoldable pub high_byte : Notation → ℕ → ℕ
high_byte notation n = byte_of_value notation (n / byte_values notation % byte_values notation)

-- the rate generator and the square wave load again at each end (8254, Mode 2 and Mode 3)
abbrev pub is_periodic : Mode → Bool
is_periodic RateGenerator = true
is_periodic SquareWave = true
is_periodic _ = false

-- in mode 0 OUT waits at 0 for the end of the count (8254, Mode 0)
abbrev pub is_terminal_count : Mode → Bool
is_terminal_count TerminalCount = true
is_terminal_count _ = false

-- the count that a number written asks for: 0 is M (8254, Minimum and Maximum Initial Counts), and in a periodic mode,
-- in which 1 is no legal count, 1 is taken as 2 (choice)
unfoldable pub count_of_number : Mode → Notation → ℕ → ℕ
count_of_number mode notation n =
    if n == 0 then modulus notation else (if is_periodic mode && n == 1 then 2 else n)

-- the count that two bytes written ask for
abbrev pub count_of_bytes : Mode → Notation → ℕ → ℕ → ℕ
count_of_bytes mode notation low high =
    count_of_number mode notation (byte_value notation low + byte_values notation * byte_value notation high)

-- CONTROL WORDS: SC in bits 7:6, RW in bits 5:4, the mode in bits 3:1, BCD in bit 0 (8254, Control Word Format)

abbrev pub sc_field : ℕ → ℕ
sc_field word = word / 64

abbrev pub rw_field : ℕ → ℕ
rw_field word = word / 16 % 4

abbrev pub mode_field : ℕ → ℕ
mode_field word = word / 2 % 8

abbrev pub bcd_bit : ℕ → Bool
bcd_bit word = is_bit word 0

-- modes 6 and 7 are 2 and 3 (8254, Control Word Format, M)
unfoldable pub mode_numbered : ℕ → Mode
mode_numbered n =
    if n == 0 then TerminalCount
    else (if n == 1 then OneShot
    else (if n == 4 then SoftwareStrobe
    else (if n == 5 then HardwareStrobe
    else (if n == 2 || n == 6 then RateGenerator
    else SquareWave))))

abbrev pub mode_number : Mode → ℕ
mode_number TerminalCount = 0
mode_number OneShot = 1
mode_number RateGenerator = 2
mode_number SquareWave = 3
mode_number SoftwareStrobe = 4
mode_number HardwareStrobe = 5

-- RW 0 is the counter latch command (8254, Control Word Format, RW)
unfoldable pub access_numbered : ℕ → Option Access
access_numbered n =
    if n == 1 then Some LowByte
    else (if n == 2 then Some HighByte
    else (if n == 3 then Some LowThenHigh
    else None))

abbrev pub access_number : Access → ℕ
access_number LowByte = 1
access_number HighByte = 2
access_number LowThenHigh = 3

abbrev pub notation_of_bit : Bool → Notation
notation_of_bit false = Binary
notation_of_bit true = Decimal

abbrev pub notation_number : Notation → ℕ
notation_number Binary = 0
notation_number Decimal = 1

-- a counter after a control word (8254, Operation Common to All Modes, Programming)
unfoldable pub programmed : Access → Mode → Notation → CounterState
programmed access mode notation = record {
  element = 0;
  count = None;
  in_use = 0;
  mode = mode;
  access = access;
  notation = notation;
  null_count = true;
  out = not (is_terminal_count mode);
  count_latch = [];
  status_latch = None;
  reads_high = false;
  low_written = None;
  load_asked = false;
  started = false;
  stopped = false;
  expired = false;
  trigger = false;
}

-- LATCHES

-- the bytes of CE that a latch of the count holds, in the order of reading (8254, Counter Latch Command)
unfoldable pub element_bytes : CounterState → List ℕ
element_bytes c = elim c.access [
  | LowByte ↦ low_byte c.notation c.element ∷ []
  | HighByte ↦ high_byte c.notation c.element ∷ []
  | LowThenHigh ↦ low_byte c.notation c.element ∷ high_byte c.notation c.element ∷ []
]

-- the status byte: OUT, null count, RW, mode, BCD from bit 7 down (8254, Read-Back Command, Status Byte)
unfoldable pub status_byte : CounterState → ℕ
status_byte c =
    (if c.out then 0x80 else 0) + (if c.null_count then 0x40 else 0) + 16 * access_number c.access
    + 2 * mode_number c.mode + notation_number c.notation

-- a latch that is held stays (8254, Counter Latch Command)
unfoldable pub latch_count : CounterState → CounterState
latch_count c = elim c.count_latch [ [] ↦ record c { count_latch = element_bytes c } | _ ∷ _ ↦ c ]

unfoldable pub latch_status : CounterState → CounterState
latch_status c = elim c.status_latch [ None ↦ record c { status_latch = Some (status_byte c) } | Some _ ↦ c ]

-- a control word for this counter: the counter latch command, or one that programs it from the start
-- (8254, Control Word Format)
unfoldable pub control : ℕ → CounterState → CounterState
control word c = elim (access_numbered (rw_field word)) [
  | None ↦ latch_count c
  | Some access ↦ programmed access (mode_numbered (mode_field word)) (notation_of_bit (bcd_bit word))
]

-- a read-back command for this counter: bit 5 at 0 latches the count, bit 4 at 0 the status (8254, Read-Back Command)
unfoldable pub read_back : ℕ → CounterState → CounterState
read_back word c =
    let d = if is_bit word 5 then c else latch_count c in
    if is_bit word 4 then d else latch_status d

-- READING A COUNTER: the byte and the state after

-- with no latch held CE is read live, by RW 3 low and high in turn (8254, Read Operations)
unfoldable pub read_live : CounterState → ℕ × CounterState
read_live c = elim c.access [
  | LowByte ↦ (low_byte c.notation c.element, c)
  | HighByte ↦ (high_byte c.notation c.element, c)
  | LowThenHigh ↦ (
    if c.reads_high then high_byte c.notation c.element else low_byte c.notation c.element,
    record c { reads_high = not c.reads_high },
  )
]

-- a latched status comes first, then a latched count, each dropped as it is read (8254, Read-Back Command)
unfoldable pub read : CounterState → ℕ × CounterState
read c = elim c.status_latch [
  | Some status ↦ (status, record c { status_latch = None })
  | None ↦ elim c.count_latch [
    | byte ∷ rest ↦ (byte, record c { count_latch = rest })
    | [] ↦ read_live c
  ]
]

-- WRITING A COUNT

-- whether a count that is complete asks for a load (8254, Mode Definitions: a new count written while counting)
unfoldable pub asks_for_load : Mode → Bool → Bool
asks_for_load TerminalCount started = true
asks_for_load OneShot started = false
asks_for_load RateGenerator started = not started
asks_for_load SquareWave started = not started
asks_for_load SoftwareStrobe started = true
asks_for_load HardwareStrobe started = false

-- the count is complete
unfoldable pub complete : ℕ → ℕ → CounterState → CounterState
complete low high c = record c {
  count = Some (count_of_bytes c.mode c.notation low high);
  null_count = true;
  low_written = None;
  load_asked = c.load_asked || asks_for_load c.mode c.started;
  stopped = false;
}

-- the low byte of two: in mode 0 the counter stops until the high one (8254, Mode 0)
unfoldable pub take_low : ℕ → CounterState → CounterState
take_low byte c = record c { low_written = Some byte; stopped = is_terminal_count c.mode }

-- RW 1 sets the low byte and clears the high one, RW 2 the other way round, RW 3 takes low and then high
-- (8254, Write Operations)
unfoldable pub take_byte : ℕ → CounterState → CounterState
take_byte byte c = elim c.access [
  | LowByte ↦ complete byte 0 c
  | HighByte ↦ complete 0 byte c
  | LowThenHigh ↦ elim c.low_written [ None ↦ take_low byte c | Some low ↦ complete low byte c ]
]

-- in mode 0 every byte written sets OUT to 0 (8254, Mode 0)
unfoldable pub write : ℕ → CounterState → CounterState
write byte c = take_byte byte (record c { out = c.out && not (is_terminal_count c.mode) })

-- THE GATE

-- a rise of the gate is a trigger in modes 1, 2, 3 and 5 (8254, Gate Pin Operations Summary)
abbrev pub is_triggered_by_gate : Mode → Bool
is_triggered_by_gate TerminalCount = false
is_triggered_by_gate SoftwareStrobe = false
is_triggered_by_gate _ = true

unfoldable pub gate_rises : CounterState → CounterState
gate_rises c = record c { trigger = c.trigger || is_triggered_by_gate c.mode }

-- a fall of the gate sets OUT to 1 in modes 2 and 3 (8254, Gate Pin Operations Summary)
unfoldable pub gate_falls : CounterState → CounterState
gate_falls c = record c { out = c.out || is_periodic c.mode }

-- a counter whose gate goes from one level to another
abbrev pub gate_goes : Bool → Bool → CounterState → CounterState
gate_goes before now c =
    if now && not before then gate_rises c
    else (if before && not now then gate_falls c
    else c)

-- ONE PULSE

-- CE after a load: the count, in mode 3 the even number at or below it (8254, Mode 3)
abbrev pub first_element : Mode → ℕ → ℕ
first_element SquareWave n = n - n % 2
first_element _ n = n

-- to load the count written last (8254, Operation Common to All Modes, Counter: on the next CLK pulse)
unfoldable pub load : CounterState → CounterState
load c = elim c.count [
  | None ↦ c
  | Some n ↦ record c {
    element = first_element c.mode n;
    in_use = n;
    null_count = false;
    load_asked = false;
    started = true;
    expired = false;
  }
]

-- a load that leaves OUT at a level
abbrev pub load_with : Bool → CounterState → CounterState
load_with level c = record (load c) { out = level }

-- to count is CE less 1, where 0 becomes M - 1 (8254, Operation Common to All Modes, Counter)
unfoldable pub count_down : CounterState → CounterState
count_down c = record c { element = if c.element == 0 then modulus c.notation - 1 else c.element - 1 }

-- in modes 0 and 1 reaching 0 sets OUT to 1 (8254, Mode 0 and Mode 1)
unfoldable pub count_to_end : CounterState → CounterState
count_to_end c = let d = count_down c in if d.element == 0 then record d { out = true } else d

-- in mode 2 reaching 1 sets OUT to 0, and the next pulse loads (8254, Mode 2)
unfoldable pub count_to_reload : CounterState → CounterState
count_to_reload c =
    if c.element == 1 then load_with true c
    else (let d = count_down c in if d.element == 1 then record d { out = false } else d)

-- where a half of the square wave ends: with an odd count its first half is one pulse longer (choice)
abbrev pub half_end : CounterState → ℕ
half_end c = if c.out && c.in_use % 2 == 1 then 0 else 2

-- in mode 3 CE goes down by 2, and at the end of a half OUT flips and the counter loads (8254, Mode 3)
unfoldable pub count_half : CounterState → CounterState
count_half c =
    if c.element == half_end c then load_with (not c.out) c else record c { element = c.element - 2 }

-- in modes 4 and 5 the first reaching of 0 since the load sets OUT to 0 (8254, Mode 4 and Mode 5)
unfoldable pub count_to_strobe : CounterState → CounterState
count_to_strobe c =
    let d = count_down c in
    if d.element == 0 && not d.expired then record d { out = false; expired = true } else d

-- in modes 0, 2, 3 and 4 a counter counts while its gate is 1 (8254, Gate Pin Operations Summary)
abbrev pub is_counting : Bool → CounterState → Bool
is_counting gate c = c.started && gate

-- the table of the modes; `triggered` says that the trigger is set and a count was written (8254, Mode Definitions)
unfoldable pub pulse_by_mode : Mode → (gate triggered : Bool) → CounterState → CounterState
pulse_by_mode TerminalCount gate triggered c =
    if c.stopped then c
    else (if c.load_asked then load c
    else (if is_counting gate c then count_to_end c
    else c))
pulse_by_mode OneShot gate triggered c =
    if triggered then load_with false c
    else (if c.started then count_to_end c
    else c)
pulse_by_mode RateGenerator gate triggered c =
    if c.load_asked || triggered then load_with true c
    else (if is_counting gate c then count_to_reload c
    else c)
pulse_by_mode SquareWave gate triggered c =
    if c.load_asked || triggered then load_with true c
    else (if is_counting gate c then count_half c
    else c)
pulse_by_mode SoftwareStrobe gate triggered c =
    let d = record c { out = true } in
    if d.load_asked then load d
    else (if is_counting gate d then count_to_strobe d
    else d)
pulse_by_mode HardwareStrobe gate triggered c =
    let d = record c { out = true } in
    if triggered then load d
    else (if d.started then count_to_strobe d
    else d)

-- one pulse of a counter's clock, with its gate at a level: it consumes the trigger (8254, Operation Common to All
-- Modes, Gate: the trigger is reset after it was sampled)
unfoldable pub pulse : Bool → CounterState → CounterState
pulse gate c = pulse_by_mode c.mode gate (c.trigger && is_some c.count) (record c { trigger = false })

-- THE CHIP

-- three counters and the level of gate 2; gates 0 and 1 are always 1
pub record PitState : Type 0 where
  pub counter0 : CounterState
  pub counter1 : CounterState
  pub counter2 : CounterState
  pub gate2 : Bool

-- at reset a counter is as after a control word with RW 3, mode 3, binary (choice: 8254, Programming the 8254, leaves
-- the state after power-up undefined)
abbrev pub reset_counter : CounterState
reset_counter = programmed LowThenHigh SquareWave Binary

-- gate 2 begins with 0 (82371SB, NMISC, bit 0)
unfoldable pub reset : PitState
reset = record { counter0 = reset_counter; counter1 = reset_counter; counter2 = reset_counter; gate2 = false }

-- the ports: the three counters and the control word register
abbrev pub IsTimerPort : ℕ → Type 0
IsTimerPort port = (timer_ports.0 ≤ port) × (port ≤ timer_ports.1)

-- a read of a port: the byte and the state after; the control word register, which cannot be read, reads FFh
-- (8254, Control Word Register)
unfoldable pub port_read : ℕ → PitState → ℕ × PitState
port_read port p =
    if port == counter0_port then (let r = read p.counter0 in (r.0, record p { counter0 = r.1 }))
    else (if port == counter1_port then (let r = read p.counter1 in (r.0, record p { counter1 = r.1 }))
    else (if port == counter2_port then (let r = read p.counter2 in (r.0, record p { counter2 = r.1 }))
    else (0xFF, p)))

-- a read-back command: bits 3 to 1 choose counters 2 to 0 (8254, Read-Back Command)
unfoldable pub read_back_chosen : ℕ → PitState → PitState
read_back_chosen word p = record p {
  counter0 = if is_bit word 1 then read_back word p.counter0 else p.counter0;
  counter1 = if is_bit word 2 then read_back word p.counter1 else p.counter1;
  counter2 = if is_bit word 3 then read_back word p.counter2 else p.counter2;
}

-- a control word: SC 0 to 2 names the counter, SC 3 is read-back (8254, Control Word Format, SC)
unfoldable pub write_control : ℕ → PitState → PitState
write_control word p =
    if sc_field word == 0 then record p { counter0 = control word p.counter0 }
    else (if sc_field word == 1 then record p { counter1 = control word p.counter1 }
    else (if sc_field word == 2 then record p { counter2 = control word p.counter2 }
    else read_back_chosen word p))

-- a write of a byte at a port
unfoldable pub port_write : ℕ → ℕ → PitState → PitState
port_write port byte p =
    if port == counter0_port then record p { counter0 = write byte p.counter0 }
    else (if port == counter1_port then record p { counter1 = write byte p.counter1 }
    else (if port == counter2_port then record p { counter2 = write byte p.counter2 }
    else write_control byte p))

-- gate 2 is a bit of port 61h (82371SB, NMISC, bit 0)
unfoldable pub set_gate2 : Bool → PitState → PitState
set_gate2 on p = record p { counter2 = gate_goes p.gate2 on p.counter2; gate2 = on }

-- OUT of a counter
unfoldable pub out_of : ℕ → PitState → Bool
out_of counter p =
    if counter == 0 then p.counter0.out else (if counter == 1 then p.counter1.out else p.counter2.out)

-- one pulse of the clock, which all three counters share
unfoldable pub pulse_all : PitState → PitState
pulse_all p = record p {
  counter0 = pulse true p.counter0;
  counter1 = pulse true p.counter1;
  counter2 = pulse p.gate2 p.counter2;
}

-- n pulses are n single pulses
unfoldable pub pulses : ℕ → PitState → PitState
pulses zero p = p
pulses (suc n) p = pulse_all (pulses n p)

-- 1 where OUT 0 rises in one pulse
abbrev pub rise_of : PitState → ℕ
rise_of p = if (pulse_all p).counter0.out && not p.counter0.out then 1 else 0

-- how often OUT 0 rises in n pulses
unfoldable pub rises : ℕ → PitState → ℕ
rises zero p = 0
rises (suc n) p = rises n p + rise_of (pulses n p)
