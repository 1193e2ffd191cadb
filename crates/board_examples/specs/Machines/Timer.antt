-- Worked examples of the 8254.
use Rattle.std.specs.Prelude.{◌≡◌, ℕ, Bool, true, false, zero, suc, List, [], ◌∷◌}
use Rattle.board_examples.specs.Machines.Words.{digit, given, told, after_lines}
use Rattle.device_spec.specs.Pit.{IsTimerPort, PitState, reset, port_read, port_write, set_gate2, out_of, pulses, rises}

-- a write of a byte, a read and the byte that it gives, pulses, the level of gate 2, and OUT of a counter
pub data Line : Type 0 where
  Out : (port byte : ℕ) → Line
  In : (port byte : ℕ) → Line
  Pulses : (count : ℕ) → Line
  Gate : (level : Bool) → Line
  Level : (counter : ℕ) → (level : Bool) → Line

abbrev pub after : Line → PitState → PitState
after (Out port byte) timer = port_write port byte timer
after (In port byte) timer = (port_read port timer).1
after (Pulses count) timer = pulses count timer
after (Gate level) timer = set_gate2 level timer
after (Level counter level) timer = timer

abbrev pub gives : Line → PitState → List ℕ
gives (Out port byte) timer = []
gives (In port byte) timer = (port_read port timer).0 ∷ []
gives (Pulses count) timer = []
gives (Gate level) timer = []
gives (Level counter level) timer = digit (out_of counter timer) ∷ []

abbrev pub tells : Line → List ℕ
tells (Out port byte) = []
tells (In port byte) = byte ∷ []
tells (Pulses count) = []
tells (Gate level) = []
tells (Level counter level) = digit level ∷ []

-- from a reset on, the timer gives what the lines say
abbrev pub Answers : List Line → Type 0
Answers lines = given gives after lines reset ≡ told tells lines

-- the ports are 40h to 43h
pub record Ports : Type 0 where
  pub first : IsTimerPort 0x40
  pub last : IsTimerPort 0x43
  pub before : ¬ (IsTimerPort 0x3F)
  pub past : ¬ (IsTimerPort 0x44)

-- ---- after a reset

-- each OUT is 1, and the status is that of RW 3, mode 3 and binary, with no count
abbrev pub after_reset : List Line
after_reset =
    Level 0 true ∷ Level 1 true ∷ Level 2 true ∷ In 0x43 0xFF
    ∷ Out 0x43 0xEE ∷ In 0x40 0xF6 ∷ In 0x41 0xF6 ∷ In 0x42 0xF6 ∷ In 0x42 0x00 ∷ In 0x42 0x00 ∷ []

unfoldable pub AfterReset : Type 0
AfterReset = Answers after_reset

-- ---- the three counters

-- a square wave of five on counter 0: status and count are read back after 0, 3, 4 and 12 pulses
abbrev pub read_back_of_0 : List Line
read_back_of_0 =
    Out 0x43 0x16 ∷ Out 0x40 0x05 ∷ Out 0x43 0xC2 ∷ In 0x40 0xD6 ∷ In 0x40 0x00
    ∷ Pulses 3 ∷ Out 0x43 0xC2 ∷ In 0x40 0x96 ∷ In 0x40 0x00
    ∷ Pulses 1 ∷ Out 0x43 0xC2 ∷ In 0x40 0x16 ∷ In 0x40 0x04
    ∷ Pulses 8 ∷ Out 0x43 0xC2 ∷ In 0x40 0x96 ∷ In 0x40 0x02 ∷ []

unfoldable pub ReadBackOf0 : Type 0
ReadBackOf0 = Answers read_back_of_0

-- the same after one whole period, when OUT 0 has not risen yet; it rises at the load after each period
abbrev pub one_period : List Line
one_period =
    Out 0x43 0x16 ∷ Out 0x40 0x05 ∷ Pulses 5 ∷ Out 0x43 0xC2 ∷ In 0x40 0x16 ∷ In 0x40 0x02 ∷ []

abbrev pub five_on_0 : PitState
five_on_0 = after_lines after (Out 0x43 0x16 ∷ Out 0x40 0x05 ∷ []) reset

pub record OnePeriod : Type 0 where
  pub read : Answers one_period
  pub none : rises 5 five_on_0 ≡ 0
  pub one : rises 6 five_on_0 ≡ 1
  pub two : rises 15 five_on_0 ≡ 2

-- counters 1 and 2 have ports, outputs and control words of their own
abbrev pub counters_1_and_2 : List Line
counters_1_and_2 =
    Out 0x43 0x50 ∷ Out 0x43 0x90 ∷ Level 0 true ∷ Level 1 false ∷ Level 2 false
    ∷ Out 0x41 0x02 ∷ Out 0x42 0x03 ∷ Pulses 3 ∷ Level 1 true ∷ Level 2 false
    ∷ Out 0x43 0xE4 ∷ In 0x41 0x90 ∷ In 0x41 0x00 ∷ In 0x42 0x03 ∷ []

unfoldable pub Counters1And2 : Type 0
Counters1And2 = Answers counters_1_and_2

-- ---- the modes

-- CE, and OUT, after each pulse
abbrev pub course : (elements : List ℕ) → (levels : List Bool) → List Line
course [] levels = []
course elements [] = []
course (element ∷ elements) (level ∷ levels) = Pulses 1 ∷ In 0x42 element ∷ Level 2 level ∷ course elements levels

-- counter 2 from a rise of its gate on, which comes after the control word and the count
abbrev pub from_rise : (word count : ℕ) → (elements : List ℕ) → (levels : List Bool) → List Line
from_rise word count elements levels = Out 0x43 word ∷ Out 0x42 count ∷ Gate true ∷ course elements levels

abbrev pub levels_of : List ℕ → List Bool
levels_of [] = []
levels_of (zero ∷ rest) = false ∷ levels_of rest
levels_of (suc n ∷ rest) = true ∷ levels_of rest

pub record EachMode : Type 0 where
  pub terminal_count :
      Answers (from_rise 0x90 3 (3 ∷ 2 ∷ 1 ∷ 0 ∷ 0xFF ∷ 0xFE ∷ []) (levels_of (0 ∷ 0 ∷ 0 ∷ 1 ∷ 1 ∷ 1 ∷ [])))
  pub one_shot : Answers (from_rise 0x92 3 (3 ∷ 2 ∷ 1 ∷ 0 ∷ 0xFF ∷ 0xFE ∷ []) (levels_of (0 ∷ 0 ∷ 0 ∷ 1 ∷ 1 ∷ 1 ∷ [])))
  pub rate : Answers (from_rise 0x94 3 (3 ∷ 2 ∷ 1 ∷ 3 ∷ 2 ∷ 1 ∷ []) (levels_of (1 ∷ 1 ∷ 0 ∷ 1 ∷ 1 ∷ 0 ∷ [])))
  pub odd_square : Answers (from_rise 0x96 5 (4 ∷ 2 ∷ 0 ∷ 4 ∷ 2 ∷ 4 ∷ []) (levels_of (1 ∷ 1 ∷ 1 ∷ 0 ∷ 0 ∷ 1 ∷ [])))
  pub even_square : Answers (from_rise 0x96 4 (4 ∷ 2 ∷ 4 ∷ 2 ∷ 4 ∷ 2 ∷ []) (levels_of (1 ∷ 1 ∷ 0 ∷ 0 ∷ 1 ∷ 1 ∷ [])))
  pub software_strobe :
      Answers (from_rise 0x98 3 (3 ∷ 2 ∷ 1 ∷ 0 ∷ 0xFF ∷ 0xFE ∷ []) (levels_of (1 ∷ 1 ∷ 1 ∷ 0 ∷ 1 ∷ 1 ∷ [])))
  pub hardware_strobe :
      Answers (from_rise 0x9A 3 (3 ∷ 2 ∷ 1 ∷ 0 ∷ 0xFF ∷ 0xFE ∷ []) (levels_of (1 ∷ 1 ∷ 1 ∷ 0 ∷ 1 ∷ 1 ∷ [])))
  pub mode_6 : Answers (from_rise 0x9C 3 (3 ∷ 2 ∷ 1 ∷ 3 ∷ 2 ∷ 1 ∷ []) (levels_of (1 ∷ 1 ∷ 0 ∷ 1 ∷ 1 ∷ 0 ∷ [])))
  pub mode_7 : Answers (from_rise 0x9E 5 (4 ∷ 2 ∷ 0 ∷ 4 ∷ 2 ∷ 4 ∷ []) (levels_of (1 ∷ 1 ∷ 1 ∷ 0 ∷ 0 ∷ 1 ∷ [])))

-- the least counts, 0, and decimal ones
pub record EachCount : Type 0 where
  pub rate_of_1 : Answers (from_rise 0x94 1 (2 ∷ 1 ∷ 2 ∷ 1 ∷ []) (levels_of (1 ∷ 0 ∷ 1 ∷ 0 ∷ [])))
  pub square_of_1 : Answers (from_rise 0x96 1 (2 ∷ 2 ∷ 2 ∷ 2 ∷ []) (levels_of (1 ∷ 0 ∷ 1 ∷ 0 ∷ [])))
  pub count_of_1 : Answers (from_rise 0x90 1 (1 ∷ 0 ∷ 0xFF ∷ []) (levels_of (0 ∷ 1 ∷ 1 ∷ [])))
  pub zero : Answers (from_rise 0x90 0 (0 ∷ 0xFF ∷ 0xFE ∷ []) (levels_of (0 ∷ 0 ∷ 0 ∷ [])))
  pub decimal_zero : Answers (from_rise 0x91 0 (0 ∷ 0x99 ∷ 0x98 ∷ []) (levels_of (0 ∷ 0 ∷ 0 ∷ [])))
  pub decimal_past_zero : Answers (from_rise 0x91 1 (1 ∷ 0 ∷ 0x99 ∷ []) (levels_of (0 ∷ 1 ∷ 1 ∷ [])))
  pub decimal : Answers (from_rise 0x95 0x12 (0x12 ∷ 0x11 ∷ 0x10 ∷ 9 ∷ []) (levels_of (1 ∷ 1 ∷ 1 ∷ 1 ∷ [])))
  pub digit_past_nine : Answers (from_rise 0x95 0x1F (0x15 ∷ 0x14 ∷ 0x13 ∷ []) (levels_of (1 ∷ 1 ∷ 1 ∷ [])))
  pub tens_past_nine : Answers (from_rise 0x95 0xB3 (0x13 ∷ 0x12 ∷ 0x11 ∷ []) (levels_of (1 ∷ 1 ∷ 1 ∷ [])))

-- ---- the gate

-- a fall in mode 2 sets OUT and stops the counting, and a rise begins a new period
abbrev pub gate_of_rate : List Line
gate_of_rate =
    Gate true ∷ Out 0x43 0x94 ∷ Out 0x42 3 ∷ Pulses 3 ∷ Level 2 false ∷ In 0x42 1
    ∷ Gate false ∷ Level 2 true ∷ Pulses 5 ∷ Level 2 true ∷ In 0x42 1
    ∷ Gate true ∷ Pulses 1 ∷ In 0x42 3 ∷ []

abbrev pub gate_of_square : List Line
gate_of_square =
    Gate true ∷ Out 0x43 0x96 ∷ Out 0x42 4 ∷ Pulses 3 ∷ Level 2 false ∷ In 0x42 4
    ∷ Gate false ∷ Level 2 true ∷ Pulses 2 ∷ In 0x42 4 ∷ Gate true ∷ Pulses 2 ∷ In 0x42 2 ∷ Level 2 true ∷ []

-- in mode 0 it stops the counting, and no more
abbrev pub gate_of_count : List Line
gate_of_count =
    Out 0x43 0x90 ∷ Out 0x42 3 ∷ Pulses 4 ∷ Level 2 false ∷ In 0x42 3
    ∷ Gate true ∷ Pulses 2 ∷ Level 2 false ∷ In 0x42 1 ∷ Gate false ∷ Level 2 false ∷ Gate true
    ∷ Pulses 1 ∷ Level 2 true ∷ In 0x42 0 ∷ []

-- in mode 1 each rise begins anew, and a fall does nothing; before the first one nothing counts
abbrev pub gate_of_one_shot : List Line
gate_of_one_shot =
    Gate true ∷ Out 0x43 0x92 ∷ Out 0x42 3 ∷ Pulses 4 ∷ Level 2 true ∷ In 0x42 0
    ∷ Gate false ∷ Gate true ∷ Pulses 2 ∷ Level 2 false ∷ In 0x42 2 ∷ Gate false ∷ Pulses 1 ∷ In 0x42 1
    ∷ Gate true ∷ Pulses 1 ∷ In 0x42 3 ∷ []

-- in mode 4 it stops the counting; in mode 5 a rise begins anew, whatever the level then
abbrev pub gate_of_software_strobe : List Line
gate_of_software_strobe =
    Gate true ∷ Out 0x43 0x98 ∷ Out 0x42 2 ∷ Pulses 2 ∷ Gate false ∷ Level 2 true ∷ Pulses 3 ∷ In 0x42 1
    ∷ Gate true ∷ Pulses 1 ∷ Level 2 false ∷ Gate false ∷ Level 2 false ∷ Pulses 1 ∷ Level 2 true ∷ []

abbrev pub gate_of_hardware_strobe : List Line
gate_of_hardware_strobe =
    Gate true ∷ Out 0x43 0x9A ∷ Out 0x42 2 ∷ Pulses 2 ∷ Level 2 true ∷ In 0x42 0 ∷ Gate false ∷ Gate true
    ∷ Gate false ∷ Pulses 3 ∷ Level 2 false ∷ In 0x42 0 ∷ Pulses 1 ∷ Level 2 true ∷ []

-- a rise before the count is kept until the pulse, and one without a count is lost at it
abbrev pub rise_before_count : List Line
rise_before_count =
    Out 0x43 0x92 ∷ Gate true ∷ Out 0x42 3 ∷ Pulses 1 ∷ In 0x42 3 ∷ Level 2 false
    ∷ Gate false ∷ Out 0x43 0x92 ∷ Gate true ∷ Pulses 1 ∷ Out 0x42 3 ∷ Pulses 1 ∷ In 0x42 0 ∷ Level 2 true ∷ []

-- a gate that is written 1 while it is 1 does not rise: no second trigger comes, in mode 1 nor in mode 2
abbrev pub gate_written_twice : List Line
gate_written_twice =
    Out 0x43 0x92 ∷ Out 0x42 5 ∷ Gate true ∷ Pulses 2 ∷ In 0x42 4 ∷ Gate true ∷ Pulses 1 ∷ In 0x42 3 ∷ Level 2 false
    ∷ Out 0x43 0x94 ∷ Out 0x42 5 ∷ Pulses 2 ∷ In 0x42 4 ∷ Gate true ∷ Pulses 1 ∷ In 0x42 3 ∷ []

pub record EachGate : Type 0 where
  pub rate : Answers gate_of_rate
  pub square : Answers gate_of_square
  pub count : Answers gate_of_count
  pub one_shot : Answers gate_of_one_shot
  pub software_strobe : Answers gate_of_software_strobe
  pub hardware_strobe : Answers gate_of_hardware_strobe
  pub before_count : Answers rise_before_count
  pub written_twice : Answers gate_written_twice

-- ---- bytes and latches

-- low and then high, live, latched by a latch command that is held, and by a read-back beside the status
abbrev pub bytes_in_turn : List Line
bytes_in_turn =
    Gate true ∷ Out 0x43 0xB4 ∷ Out 0x42 0x34 ∷ Out 0x42 0x12 ∷ Pulses 1 ∷ In 0x42 0x34 ∷ In 0x42 0x12
    ∷ Out 0x43 0x80 ∷ Pulses 1 ∷ Out 0x43 0x80 ∷ Out 0x42 0xFF ∷ Out 0x42 0xFF ∷ In 0x42 0x34 ∷ In 0x42 0x12
    ∷ In 0x42 0x33
    ∷ Out 0x43 0x80 ∷ In 0x42 0x33 ∷ In 0x42 0x12 ∷ In 0x42 0x12 ∷ []

abbrev pub status_before_count : List Line
status_before_count =
    Gate true ∷ Out 0x43 0xB4 ∷ Out 0x42 0x34 ∷ Out 0x42 0x12 ∷ Pulses 1 ∷ Out 0x42 0xFF ∷ Out 0x42 0xFF
    ∷ Out 0x43 0xC8 ∷ Pulses 1 ∷ Out 0x43 0xC8 ∷ In 0x42 0xF4 ∷ In 0x42 0x34 ∷ In 0x42 0x12 ∷ In 0x42 0x33 ∷ []

-- a status that is held stays, whatever comes
abbrev pub status_held : List Line
status_held =
    Gate true ∷ Out 0x43 0xB4 ∷ Out 0x42 0x34 ∷ Out 0x42 0x12 ∷ Out 0x43 0xE8 ∷ Pulses 1 ∷ Out 0x43 0xE8
    ∷ In 0x42 0xF4 ∷ In 0x42 0x34 ∷ In 0x42 0x12 ∷ Out 0x43 0xE8 ∷ In 0x42 0xB4 ∷ []

-- the high byte alone
abbrev pub high_byte_alone : List Line
high_byte_alone =
    Gate true ∷ Out 0x43 0xA4 ∷ Out 0x42 0x02 ∷ Pulses 1 ∷ In 0x42 0x02 ∷ Pulses 1 ∷ In 0x42 0x01
    ∷ Out 0x43 0x80 ∷ In 0x42 0x01 ∷ In 0x42 0x01 ∷ Out 0x43 0xE8 ∷ In 0x42 0xA4 ∷ []

-- a decimal count of four digits
abbrev pub decimal_digits : List Line
decimal_digits =
    Gate true ∷ Out 0x43 0xB1 ∷ Out 0x42 0x00 ∷ Out 0x42 0x12 ∷ Pulses 1 ∷ In 0x42 0x00 ∷ In 0x42 0x12
    ∷ Pulses 1 ∷ In 0x42 0x99 ∷ In 0x42 0x11 ∷ Out 0x43 0xE8 ∷ In 0x42 0x31 ∷ []

-- in mode 0 the first byte stops the counter and sets OUT to 0, until the second
abbrev pub written_in_halves : List Line
written_in_halves =
    Gate true ∷ Out 0x43 0xB0 ∷ Out 0x43 0xE8 ∷ Out 0x42 2 ∷ Out 0x42 0 ∷ Pulses 1 ∷ In 0x42 0x70
    ∷ Out 0x43 0xE8 ∷ Pulses 2 ∷ Level 2 true ∷ Out 0x42 5 ∷ Level 2 false ∷ Pulses 3 ∷ In 0x42 0x30 ∷ In 0x42 0
    ∷ In 0x42 0
    ∷ Out 0x42 0 ∷ Pulses 1 ∷ In 0x42 5 ∷ In 0x42 0 ∷ []

-- a control word drops what was latched, half read and half written, and the count
abbrev pub control_drops : List Line
control_drops =
    Gate true ∷ Out 0x43 0xB4 ∷ Out 0x42 0x34 ∷ Out 0x42 0x12 ∷ Pulses 1 ∷ In 0x42 0x34 ∷ Out 0x42 0x56 ∷ Out 0x43 0xC8
    ∷ Out 0x43 0xB4 ∷ In 0x42 0x00 ∷ In 0x42 0x00 ∷ Out 0x42 0x07 ∷ Out 0x42 0x00 ∷ Pulses 1 ∷ In 0x42 0x07
    ∷ In 0x42 0x00 ∷ []

-- a count written in a period waits for its end, and one written in mode 4 does not
abbrev pub counts_that_wait : List Line
counts_that_wait =
    Gate true ∷ Out 0x43 0x94 ∷ Out 0x42 4 ∷ Pulses 2 ∷ Out 0x42 9 ∷ Pulses 2 ∷ In 0x42 1 ∷ Pulses 1 ∷ In 0x42 9
    ∷ Out 0x43 0x98 ∷ Out 0x42 4 ∷ Pulses 2 ∷ Out 0x42 9 ∷ Pulses 1 ∷ In 0x42 9 ∷ []

-- a decimal count with digits above 9, of which A is taken as 0, B as 1 and F as 5: nothing is carried
abbrev pub digits_past_nine : List Line
digits_past_nine =
    Gate true ∷ Out 0x43 0xB1 ∷ Out 0x42 0xBF ∷ Out 0x42 0xA2 ∷ Pulses 1 ∷ In 0x42 0x15 ∷ In 0x42 0x02 ∷ []

-- a count of 0 is the greatest, and reads as 0 until the next pulse
abbrev pub greatest_counts : List Line
greatest_counts =
    Gate true ∷ Out 0x43 0xB0 ∷ Out 0x42 0x00 ∷ Out 0x42 0x00 ∷ Pulses 1 ∷ In 0x42 0x00 ∷ In 0x42 0x00
    ∷ Pulses 1 ∷ In 0x42 0xFF ∷ In 0x42 0xFF
    ∷ Out 0x43 0xB1 ∷ Out 0x42 0x00 ∷ Out 0x42 0x00 ∷ Pulses 1 ∷ In 0x42 0x00 ∷ In 0x42 0x00
    ∷ Pulses 1 ∷ In 0x42 0x99 ∷ In 0x42 0x99 ∷ []

-- reads and writes take their bytes in turn each by itself, whichever begins
abbrev pub written_while_read : List Line
written_while_read =
    Gate true ∷ Out 0x43 0xB8 ∷ Out 0x42 0x34 ∷ Out 0x42 0x12 ∷ Pulses 1 ∷ In 0x42 0x34 ∷ Out 0x42 0x78 ∷ In 0x42 0x12
    ∷ Out 0x42 0x56 ∷ Pulses 1 ∷ In 0x42 0x78 ∷ In 0x42 0x56 ∷ []

abbrev pub read_while_written : List Line
read_while_written =
    Gate true ∷ Out 0x43 0xB8 ∷ Out 0x42 0x34 ∷ In 0x42 0x00 ∷ Out 0x42 0x12 ∷ Pulses 1 ∷ In 0x42 0x12 ∷ In 0x42 0x34
    ∷ []

pub record BytesAndLatches : Type 0 where
  pub in_turn : Answers bytes_in_turn
  pub status_first : Answers status_before_count
  pub status_stays : Answers status_held
  pub high_alone : Answers high_byte_alone
  pub decimal : Answers decimal_digits
  pub past_nine : Answers digits_past_nine
  pub greatest : Answers greatest_counts
  pub while_read : Answers written_while_read
  pub while_written : Answers read_while_written
  pub in_halves : Answers written_in_halves
  pub dropped : Answers control_drops
  pub waiting : Answers counts_that_wait
