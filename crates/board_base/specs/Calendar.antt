-- The Gregorian calendar in the years 1980 to 2099, with the days of the week counted on from
-- Tuesday, 1 January 1980.
use Rattle.std.specs.Prelude.{◌≡◌, ℕ, zero, suc, ◌+◌, ◌-◌, ◌%◌, ◌≤◌, ◌↔◌, Bool, true, not, ◌&&◌, ◌||◌, ◌==◌, nat_le}
use Rattle.std.specs.Prelude.{if◌then◌else◌}
use Rattle.board_base.specs.declared.moment.Moment.{Moment}
use Rattle.board_base.specs.Bits.{is_within}

-- every fourth year, but of the centuries only every fourth
abbrev pub is_leap : (year : ℕ) → Bool
is_leap year = (year % 4 == 0) && (not (year % 100 == 0) || (year % 400 == 0))

-- thirty days have September, April, June and November
abbrev pub days_in_month : (year month : ℕ) → ℕ
days_in_month year month =
    if month == 2 then (if is_leap year then 29 else 28)
    else (if (month == 4) || (month == 6) || (month == 9) || (month == 11) then 30 else 31)

abbrev pub days_in_year : (year : ℕ) → ℕ
days_in_year year = if is_leap year then 366 else 365

-- the calendar has this day, in a year from 1980 to 2099
pub record IsDate (year month day : ℕ) : Type 0 where
  pub year_low : 1980 ≤ year
  pub year_high : year ≤ 2099
  pub month_low : 1 ≤ month
  pub month_high : month ≤ 12
  pub day_low : 1 ≤ day
  pub day_high : day ≤ days_in_month year month

-- the day has this second
pub record IsTime (hour minute second : ℕ) : Type 0 where
  pub hour_high : hour ≤ 23
  pub minute_high : minute ≤ 59
  pub second_high : second ≤ 59

-- whether the calendar has this day, in a year from 1980 to 2099, and the day this second: what a reader of numbers
-- asks (`moments_decided`)
abbrev pub is_moment : (year month day hour minute second : ℕ) → Bool
is_moment year month day hour minute second =
    is_within 1980 2099 year && is_within 1 12 month && is_within 1 (days_in_month year month) day
    && nat_le hour 23 && nat_le minute 59 && nat_le second 59

-- a date and a time of day are decided so
abbrev pub MomentsDecided : Type 0
MomentsDecided =
    (year month day hour minute second : ℕ) →
    (is_moment year month day hour minute second ≡ true) ↔ (IsDate year month day × IsTime hour minute second)

-- the days of this many years, the first of them 1980
unfoldable pub days_of_years : (years : ℕ) → ℕ
days_of_years zero = 0
days_of_years (suc years) = days_of_years years + days_in_year (1980 + years)

-- the days of this many months of a year, from January on
unfoldable pub days_of_months : (year months : ℕ) → ℕ
days_of_months year zero = 0
days_of_months year (suc months) = days_of_months year months + days_in_month year (suc months)

-- how many days a date lies after 1 January 1980
unfoldable pub days_since_1980 : (year month day : ℕ) → ℕ
days_since_1980 year month day =
    days_of_years (year - 1980) + days_of_months year (month - 1) + (day - 1)

-- the day of the week, from 1 for Sunday: 1 January 1980 was a Tuesday, which is 3
unfoldable pub weekday_of : (year month day : ℕ) → ℕ
weekday_of year month day = (days_since_1980 year month day + 2) % 7 + 1

-- the moment with these parts and the calendar's weekday
abbrev pub moment_of : (year month day hour minute second : ℕ) → Moment
moment_of year month day hour minute second =
    record {
      year = year;
      month = month;
      day = day;
      weekday = weekday_of year month day;
      hour = hour;
      minute = minute;
      second = second;
    }

-- a moment that there is: the calendar has the date, with this weekday, and the day has the time
pub record IsMoment (m : Moment) : Type 0 where
  pub date : IsDate m.year m.month m.day
  pub weekday : m.weekday ≡ weekday_of m.year m.month m.day
  pub time : IsTime m.hour m.minute m.second

-- the weekdays go on by one from each day to the next: within a month, from the last day of a month
-- to the first of the next, and from 31 December to 1 January
pub record WeekdaysFollow : Type 0 where
  pub first : weekday_of 1980 1 1 ≡ 3
  pub next_day : (year month day : ℕ) → 1 ≤ day →
      weekday_of year month (day + 1) ≡ weekday_of year month day % 7 + 1
  pub next_month : (year month : ℕ) → 1 ≤ month →
      weekday_of year (month + 1) 1 ≡ weekday_of year month (days_in_month year month) % 7 + 1
  pub next_year : (year : ℕ) → 1980 ≤ year →
      weekday_of (year + 1) 1 1 ≡ weekday_of year 12 31 % 7 + 1
