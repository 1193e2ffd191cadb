-- The second that the clock shows, and the one that an update cycle goes on to.
use Rattle.std.specs.Prelude.{ℕ, ◌≡◌, ◌+◌, ◌*◌, ◌%◌, ◌<◌, ◌≤◌, ◌⊎◌, true, false, nat_lt, if◌then◌else◌}
use Rattle.board_base.specs.Calendar.{days_since_1980, IsMoment, moment_of, days_in_month}
use Rattle.device_spec.specs.Clock.{Clock, byte_at, control_of, holds_time, number_byte, hour_byte as hour_byte_of}
use Rattle.device_spec.specs.Clock.{second_at, minute_at, hour_at, day_at, month_at, year_at}
use Rattle.board_base.specs.declared.moment.Moment.{Moment}

-- The registers say this moment, in the form that register B says (MC146818, Time, Calendar, and Alarm Data Modes),
-- whatever stands in that of the weekday. Of the year they hold two digits: it is one of 1980 to 2079 (this board's
-- choice).
pub record IsShown (clock : Clock) (shown : Moment) : Type 0 where
  pub moment : IsMoment shown
  pub last_year : shown.year ≤ 2079
  pub second : byte_at clock second_at ≡ number_byte (control_of clock) shown.second
  pub minute : byte_at clock minute_at ≡ number_byte (control_of clock) shown.minute
  pub hour : byte_at clock hour_at ≡ hour_byte_of (control_of clock) shown.hour
  pub day : byte_at clock day_at ≡ number_byte (control_of clock) shown.day
  pub month : byte_at clock month_at ≡ number_byte (control_of clock) shown.month
  pub year : byte_at clock year_at ≡ number_byte (control_of clock) (shown.year % 100)

-- these bytes say this date, and this time of day, of numbers of at most two digits
pub record AreDateBytes (control year_byte month_byte day_byte year month day : ℕ) : Type 0 where
  pub first : 1980 ≤ year
  pub last : year ≤ 2079
  pub month_small : month < 100
  pub day_small : day < 100
  pub year_is : year_byte ≡ number_byte control (year % 100)
  pub month_is : month_byte ≡ number_byte control month
  pub day_is : day_byte ≡ number_byte control day

pub record AreTimeBytes (control hour_byte minute_byte second_byte hour minute second : ℕ) : Type 0 where
  pub hour_small : hour < 24
  pub minute_small : minute < 100
  pub second_small : second < 100
  pub hour_is : hour_byte ≡ hour_byte_of control hour
  pub minute_is : minute_byte ≡ number_byte control minute
  pub second_is : second_byte ≡ number_byte control second

-- midnight of the day after
abbrev pub midnight_after : (year month day : ℕ) → Moment
midnight_after year month day =
    if nat_lt day (days_in_month year month) then moment_of year month (day + 1) 0 0 0 else
    if nat_lt month 12 then moment_of year (month + 1) 1 0 0 0 else moment_of (year + 1) 1 1 0 0 0

-- one second on: what overflows carries, up to the year (MC146818, Update Cycle)
abbrev pub second_after : Moment → Moment
second_after m =
    if nat_lt m.second 59 then moment_of m.year m.month m.day m.hour m.minute (m.second + 1) else
    if nat_lt m.minute 59 then moment_of m.year m.month m.day m.hour (m.minute + 1) 0 else
    if nat_lt m.hour 23 then moment_of m.year m.month m.day (m.hour + 1) 0 0 else
    midnight_after m.year m.month m.day

-- the time does not stand still, and this is the second after the one that the registers say
pub record IsNextSecond (clock : Clock) (next : Moment) : Type 0 where
  pub runs : holds_time (control_of clock) ≡ false
  pub moment : IsMoment next
  pub now : Moment
  pub shown : IsShown clock now
  pub is : next ≡ second_after now

-- there is none: SET holds the time (MC146818, Register B), or the registers say no moment
abbrev pub HasNoNext : Clock → Type 0
HasNoNext clock = (holds_time (control_of clock) ≡ true) ⊎ ((shown : Moment) → ¬ IsShown clock shown)

-- ---- a law: the seconds are counted on by one

-- how many seconds a moment lies after 1 January 1980
abbrev pub seconds_since_1980 : Moment → ℕ
seconds_since_1980 m = days_since_1980 m.year m.month m.day * 86_400 + m.hour * 3600 + m.minute * 60 + m.second

abbrev pub SecondsFollow : Type 0
SecondsFollow = (m : Moment) → IsMoment m → seconds_since_1980 (second_after m) ≡ seconds_since_1980 m + 1
