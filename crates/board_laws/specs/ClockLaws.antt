-- Laws of the clock's machine, in the words of someone who uses the clock.
use Rattle.std.specs.Prelude.{◌≡◌, ◌≢◌, ℕ, ◌+◌, ◌*◌, ◌/◌, ◌%◌, ◌<◌, Bool, true, false, ◌&&◌, ◌||◌, ◌==◌, nat_le}
use Rattle.std.specs.Prelude.{if◌then◌else◌, length}
use Rattle.board_base.specs.Bits.{is_bit}
use Rattle.board_prelude.specs.{CivilTime, Clock, worth, byte_at, control_of, holds_time, is_binary, is_24_hour}
use Rattle.board_prelude.specs.{number_byte, hour_byte, read_value, after_read, after_write, after_moment, after_reset}
use Rattle.board_prelude.specs.{second_at, second_alarm_at, minute_at, minute_alarm_at, hour_at, hour_alarm_at}
use Rattle.board_prelude.specs.{weekday_at, day_at, month_at, year_at, register_a, register_b, register_c, register_d}
use Rattle.board_prelude.specs.{update_interrupts, clock_index_port, clock_data_port}
use Rattle.device_spec.specs.Clock.{interrupt_line, power_on}

-- The time is shown

-- a number below 100, read from its byte
abbrev pub number_read : (control byte : ℕ) → ℕ
number_read control byte = if is_binary control then byte else byte / 16 * 10 + byte % 16

-- an hour from 0 to 23, read from its byte: a clock face shows 12 for 0, and bit 7 adds twelve hours
abbrev pub hour_read : (control byte : ℕ) → ℕ
hour_read control byte =
    if is_24_hour control then number_read control byte
    else number_read control (byte % 128) % 12 + worth (is_bit byte 7) 12

-- the bytes, read as register B has them written, are this time
pub record Shows (clock : Clock) (time : CivilTime) : Type 0 where
  pub seconds : number_read (control_of clock) (byte_at clock second_at) ≡ time.second
  pub minutes : number_read (control_of clock) (byte_at clock minute_at) ≡ time.minute
  pub hours : hour_read (control_of clock) (byte_at clock hour_at) ≡ time.hour
  pub weekdays : number_read (control_of clock) (byte_at clock weekday_at) ≡ time.weekday
  pub days : number_read (control_of clock) (byte_at clock day_at) ≡ time.day
  pub months : number_read (control_of clock) (byte_at clock month_at) ≡ time.month
  pub years : number_read (control_of clock) (byte_at clock year_at) ≡ time.year % 100

-- a time whose numbers have two digits, with an hour of the day
pub record IsShowable (time : CivilTime) : Type 0 where
  pub seconds : time.second < 60
  pub minutes : time.minute < 60
  pub hours : time.hour < 24
  pub weekdays : time.weekday < 100
  pub days : time.day < 100
  pub months : time.month < 100

-- after a moment that is let in, the clock shows it, in each of the four formats
abbrev pub ShowsTheMoment : Type 0
ShowsTheMoment =
    (clock : Clock) (time : CivilTime) →
    length clock.bytes ≡ 128 → holds_time (control_of clock) ≡ false → IsShowable time →
    Shows (after_moment clock time) time

-- The alarm rings

-- the alarm bytes are those of a time of day
pub record HasAlarm (clock : Clock) (alarm : CivilTime) : Type 0 where
  pub seconds : byte_at clock second_alarm_at ≡ number_byte (control_of clock) alarm.second
  pub minutes : byte_at clock minute_alarm_at ≡ number_byte (control_of clock) alarm.minute
  pub hours : byte_at clock hour_alarm_at ≡ hour_byte (control_of clock) alarm.hour

-- two times have the same time of day
abbrev pub same_time_of_day : CivilTime → CivilTime → Bool
same_time_of_day time other =
    (time.second == other.second) && (time.minute == other.minute) && (time.hour == other.hour)

-- an alarm that is set to a time of day rings at this time and at no other
abbrev pub RingsAtItsTime : Type 0
RingsAtItsTime =
    (clock : Clock) (time alarm : CivilTime) →
    length clock.bytes ≡ 128 → holds_time (control_of clock) ≡ false →
    IsShowable time → IsShowable alarm → HasAlarm clock alarm →
    (after_moment clock time).alarm_flag ≡ (clock.alarm_flag || same_time_of_day alarm time)

-- The flags are read

-- a read of register C leaves no flag to be read, and no interrupt
pub record IsQuiet (clock : Clock) : Type 0 where
  pub flags : read_value clock clock_data_port ≡ 0
  pub line : interrupt_line clock ≡ false

abbrev pub ReadingQuiets : Type 0
ReadingQuiets = (clock : Clock) → clock.index ≡ register_c → IsQuiet (after_read clock clock_data_port)

-- A hard reset

-- all bytes but register B stay; of register B bits 6 to 3 are cleared and the others stay
pub record IsClockReset (before after : Clock) : Type 0 where
  pub bytes : (address : ℕ) → address ≢ register_b → byte_at after address ≡ byte_at before address
  pub switches : (k : ℕ) → k < 8 →
      is_bit (control_of after) k
      ≡ (if nat_le 3 k && nat_le k 6 then false else is_bit (control_of before) k)
  pub index : after.index ≡ 0
  pub line : interrupt_line after ≡ false

abbrev pub ResetKeepsTheTime : Type 0
ResetKeepsTheTime =
    (clock : Clock) → length clock.bytes ≡ 128 → IsClockReset clock (after_reset clock)

-- The memory

-- a byte written at an address past the registers is read there, and all other bytes stay
pub record Keeps (before after : Clock) (address byte : ℕ) : Type 0 where
  pub read : read_value after clock_data_port ≡ byte
  pub others : (other : ℕ) → other ≢ address → byte_at after other ≡ byte_at before other

abbrev pub MemoryKeeps : Type 0
MemoryKeeps =
    (clock : Clock) (address byte : ℕ) →
    length clock.bytes ≡ 128 → register_d < address → address < 128 →
    Keeps clock (after_write (after_write clock clock_index_port address) clock_data_port byte) address byte

-- What always holds

-- a clock as every run from power-on leaves it: register A shows no update in progress, and while
-- the time stands still no update can interrupt
pub record IsSound (clock : Clock) : Type 0 where
  pub size : length clock.bytes ≡ 128
  pub within : clock.index < 128
  pub no_update : byte_at clock register_a < 128
  pub stopped :
      holds_time (control_of clock) ≡ true → update_interrupts (control_of clock) ≡ false

pub record StaysSound : Type 0 where
  pub at_power_on : IsSound power_on
  pub at_read : (clock : Clock) (port : ℕ) → IsSound clock → IsSound (after_read clock port)
  pub at_write : (clock : Clock) (port byte : ℕ) →
      IsSound clock → IsSound (after_write clock port byte)
  pub at_moment : (clock : Clock) (time : CivilTime) →
      IsSound clock → IsSound (after_moment clock time)
  pub at_reset : (clock : Clock) → IsSound clock → IsSound (after_reset clock)
