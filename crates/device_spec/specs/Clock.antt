-- The MC146818 real time clock (Motorola MC146818 datasheet, "Address Map", "Time, Calendar and Alarm
-- Locations" and "Registers"), as a machine: what a read gives, and the state after each step.
use Rattle.std.specs.Prelude.{ℕ, ◌+◌, ◌-◌, ◌*◌, ◌/◌, ◌%◌, Bool, true, false, ◌&&◌, ◌||◌, ◌==◌, nat_le, if◌then◌else◌}
use Rattle.std.specs.Prelude.{List, [], ◌∷◌, replicate, slice_index, slice_set}
use Rattle.board_base.specs.Bits.{is_bit}
use Rattle.device_spec.specs.PortNames.{clock_index_port, clock_data_port}

-- a moment that the clock is told: the weekday 1 is Sunday (MC146818, Time, Calendar, and Alarm Locations)
pub record CivilTime : Type 0 where
  pub year : ℕ
  pub month : ℕ
  pub day : ℕ
  pub weekday : ℕ
  pub hour : ℕ
  pub minute : ℕ
  pub second : ℕ

-- the address that port 71h reads and writes, the bytes by address, and the flags of register C (MC146818, Address Map)
pub record Clock : Type 0 where
  pub index : ℕ
  pub bytes : List ℕ
  pub alarm_flag : Bool
  pub update_flag : Bool

-- a bit of this worth, where it is set
abbrev pub worth : Bool → ℕ → ℕ
worth set value = if set then value else 0

-- Addresses (MC146818, Address Map)

abbrev pub second_at : ℕ
second_at = 0

abbrev pub second_alarm_at : ℕ
second_alarm_at = 1

abbrev pub minute_at : ℕ
minute_at = 2

abbrev pub minute_alarm_at : ℕ
minute_alarm_at = 3

abbrev pub hour_at : ℕ
hour_at = 4

abbrev pub hour_alarm_at : ℕ
hour_alarm_at = 5

abbrev pub weekday_at : ℕ
weekday_at = 6

abbrev pub day_at : ℕ
day_at = 7

abbrev pub month_at : ℕ
month_at = 8

abbrev pub year_at : ℕ
year_at = 9

abbrev pub register_a : ℕ
register_a = 0x0A

abbrev pub register_b : ℕ
register_b = 0x0B

abbrev pub register_c : ℕ
register_c = 0x0C

abbrev pub register_d : ℕ
register_d = 0x0D

-- the byte at an address
abbrev pub byte_at : Clock → ℕ → ℕ
byte_at clock address = slice_index clock.bytes address

-- Register B

-- the byte of register B
abbrev pub control_of : Clock → ℕ
control_of clock = byte_at clock register_b

-- SET: the time stands still (MC146818, Register B)
abbrev pub holds_time : ℕ → Bool
holds_time control = is_bit control 7

-- AIE and UIE: the flag of the alarm, or of the update, raises the interrupt line (MC146818, Register B)
abbrev pub alarm_interrupts : ℕ → Bool
alarm_interrupts control = is_bit control 5

abbrev pub update_interrupts : ℕ → Bool
update_interrupts control = is_bit control 4

-- DM: numbers are binary, and not binary-coded decimal (MC146818, Register B)
abbrev pub is_binary : ℕ → Bool
is_binary control = is_bit control 2

-- 24/12: hours are 0 to 23, and not 1 to 12 with a bit for the half of the day (MC146818, Register B)
abbrev pub is_24_hour : ℕ → Bool
is_24_hour control = is_bit control 1

-- The format of the time

-- a number below 100 as two decimal digits, the tens in the high four bits
abbrev pub bcd : ℕ → ℕ
bcd n = n / 10 * 16 + n % 10

-- a number as register B has numbers written
abbrev pub number_byte : (control number : ℕ) → ℕ
number_byte control n = if is_binary control then n else bcd n

-- an hour on a clock face
abbrev pub face_hour : ℕ → ℕ
face_hour hour = if hour % 12 == 0 then 12 else hour % 12

-- an hour as register B has hours written: on a clock face bit 7 is set from noon on (MC146818, Time, Calendar, and
-- Alarm Locations)
abbrev pub hour_byte : (control hour : ℕ) → ℕ
hour_byte control hour =
    if is_24_hour control then number_byte control hour
    else number_byte control (face_hour hour) + (if nat_le 12 hour then 128 else 0)

-- what a moment puts at each address of the time and the calendar (MC146818, Time, Calendar, and Alarm Data Modes)
abbrev pub time_bytes : (control : ℕ) → CivilTime → List (ℕ × ℕ)
time_bytes control time =
    (second_at, number_byte control time.second)
    ∷ (minute_at, number_byte control time.minute)
    ∷ (hour_at, hour_byte control time.hour)
    ∷ (weekday_at, number_byte control time.weekday)
    ∷ (day_at, number_byte control time.day)
    ∷ (month_at, number_byte control time.month)
    ∷ (year_at, number_byte control (time.year % 100))
    ∷ []

-- the bytes, with others put at their addresses
abbrev pub put : List (ℕ × ℕ) → List ℕ → List ℕ
put [] bytes = bytes
put (p ∷ rest) bytes = put rest (slice_set bytes p.0 p.1)

-- The alarm

-- an alarm byte of C0h to FFh fits each time, and any other byte only its equal (MC146818, Time, Calendar, and Alarm
-- Locations: don't care)
abbrev pub alarm_fits : (alarm time : ℕ) → Bool
alarm_fits alarm time = nat_le 0xC0 alarm || (alarm == time)

-- the second, the minute and the hour all fit their alarm bytes
abbrev pub alarm_rings : List ℕ → Bool
alarm_rings bytes =
    alarm_fits (slice_index bytes second_alarm_at) (slice_index bytes second_at)
    && alarm_fits (slice_index bytes minute_alarm_at) (slice_index bytes minute_at)
    && alarm_fits (slice_index bytes hour_alarm_at) (slice_index bytes hour_at)

-- The interrupt line, and the reads

-- the interrupt line: a flag is set that register B lets through (MC146818, Interrupts; Register C, IRQF)
abbrev pub interrupt_line : Clock → Bool
interrupt_line clock =
    (clock.alarm_flag && alarm_interrupts (control_of clock))
    || (clock.update_flag && update_interrupts (control_of clock))

-- register C: the interrupt line in bit 7, the alarm's flag in bit 5 and the update's in bit 4 (MC146818, Register C)
abbrev pub flags_byte : Clock → ℕ
flags_byte clock =
    worth (interrupt_line clock) 0x80 + worth clock.alarm_flag 0x20 + worth clock.update_flag 0x10

-- the byte at the index; register D says that the memory and the time are valid (MC146818, Register D, VRT)
abbrev pub data_byte : Clock → ℕ
data_byte clock =
    if clock.index == register_c then flags_byte clock
    else if clock.index == register_d then 0x80
    else byte_at clock clock.index

-- what a read of a port gives: port 70h cannot be read (82371SB, RTCI: Real-Time Clock Address Register)
abbrev pub read_value : Clock → (port : ℕ) → ℕ
read_value clock port = if port == clock_data_port then data_byte clock else 0xFF

-- The steps

-- a clock with no flag set
abbrev pub without_flags : Clock → Clock
without_flags clock = record clock { alarm_flag = false; update_flag = false }

-- after a read: one of register C clears its flags (MC146818, Register C)
abbrev pub after_read : Clock → (port : ℕ) → Clock
after_read clock port =
    if (port == clock_data_port) && (clock.index == register_c) then without_flags clock else clock

-- register B as written: with SET, no update can raise the interrupt line (MC146818, Register B: SET clears UIE)
abbrev pub control_written : ℕ → ℕ
control_written byte = if holds_time byte && update_interrupts byte then byte - 0x10 else byte

-- what a write leaves at an address: bit 7 of register A, UIP, stays 0, and C and D ignore writes (MC146818, Registers
-- A, C and D)
abbrev pub written : (address old byte : ℕ) → ℕ
written address old byte =
    if address == register_a then byte % 128
    else if address == register_b then control_written byte
    else if (address == register_c) || (address == register_d) then old
    else byte

-- the clock with this byte written at its index
abbrev pub store : Clock → (byte : ℕ) → Clock
store clock byte =
    let at_index = written clock.index (byte_at clock clock.index) byte in
    record clock { bytes = slice_set clock.bytes clock.index at_index }

-- after a write: port 70h takes the index from bits 6:0, and port 71h stores the byte (82371SB, RTCI and RTCD)
abbrev pub after_write : Clock → (port byte : ℕ) → Clock
after_write clock port byte =
    if port == clock_index_port then record clock { index = byte % 128 }
    else if port == clock_data_port then store clock byte
    else clock

-- a moment: the time is stored, the update's flag set, and the alarm's where the alarm rings (MC146818, Update Cycle)
abbrev pub tell : Clock → List ℕ → Clock
tell clock bytes =
    record clock
    { bytes = bytes; update_flag = true; alarm_flag = clock.alarm_flag || alarm_rings bytes }

-- after a moment: nothing happens while SET is 1 (MC146818, Register B, SET)
abbrev pub after_moment : Clock → CivilTime → Clock
after_moment clock time =
    if holds_time (control_of clock) then clock
    else tell clock (put (time_bytes (control_of clock) time) clock.bytes)

-- register B after a hard reset: SET and bits 2 to 0 stay, and PIE, AIE, UIE and SQWE are cleared (MC146818, RESET)
abbrev pub control_reset : ℕ → ℕ
control_reset control = worth (holds_time control) 0x80 + control % 8

-- after a hard reset: the index is 0, no interrupt is on and no flag set; all other bytes stay (MC146818, RESET)
abbrev pub after_reset : Clock → Clock
after_reset clock =
    record clock {
      index = 0;
      bytes = slice_set clock.bytes register_b (control_reset (control_of clock));
      alarm_flag = false;
      update_flag = false;
    }

-- at power-on: the divider of register A is that of a 32,768 Hz crystal (MC146818, Divider Control), hours are 0 to 23
-- (this board's choice)
unfoldable pub power_on : Clock
power_on =
    record {
      index = 0;
      bytes = slice_set (slice_set (replicate 128 0) register_a 0x26) register_b 0x02;
      alarm_flag = false;
      update_flag = false;
    }
