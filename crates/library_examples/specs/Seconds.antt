-- Worked examples of a second of the clock, by the numbers of the MC146818 datasheet ("Time, Calendar, and Alarm
-- Locations") and of the calendar, which stand here once more on purpose.
use Rattle.std.specs.Prelude.{ℕ, ◌≡◌, false, [], ◌∷◌}
use Rattle.board_base.specs.declared.moment.Moment.{Moment}
use Rattle.device_spec.specs.Clock.{Clock}
use Rattle.cmos_clock.specs.Seconds.{IsShown, second_after}

abbrev pub moment : (year month day weekday hour minute second : ℕ) → Moment
moment year month day weekday hour minute second = record {
  year = year;
  month = month;
  day = day;
  weekday = weekday;
  hour = hour;
  minute = minute;
  second = second;
}

-- registers 0 to 11, with alarms of 0 and a weekday of 99h, which is none
abbrev pub clock_of_bytes : (control second minute hour day month year : ℕ) → Clock
clock_of_bytes control second minute hour day month year = record {
  index = 0;
  bytes = second ∷ 0 ∷ minute ∷ 0 ∷ hour ∷ 0 ∷ 0x99 ∷ day ∷ month ∷ year ∷ 0x26 ∷ control ∷ [];
  alarm_flag = false;
  update_flag = false;
}

-- What stands in the registers: in binary-coded decimal and in binary, of 24 hours and of 12, where 91h is eleven in
-- the evening, 12h the first hour of the day and 8Ch noon
pub record MomentsShown : Type 0 where
  pub decimal : IsShown (clock_of_bytes 0x02 0x59 0x59 0x23 0x31 0x12 0x99) (moment 1999 12 31 6 23 59 59)
  pub evening : IsShown (clock_of_bytes 0x00 0x59 0x59 0x91 0x28 0x02 0x24) (moment 2024 2 28 4 23 59 59)
  pub midnight : IsShown (clock_of_bytes 0x00 0x00 0x00 0x12 0x29 0x02 0x24) (moment 2024 2 29 5 0 0 0)
  pub binary : IsShown (clock_of_bytes 0x06 59 9 9 30 4 80) (moment 1980 4 30 4 9 9 59)
  pub noon : IsShown (clock_of_bytes 0x04 0 0 0x8C 1 12 26) (moment 2026 12 1 3 12 0 0)

-- What comes a second later
pub record SecondsPass : Type 0 where
  pub second : second_after (moment 2026 11 28 7 14 30 58) ≡ moment 2026 11 28 7 14 30 59
  pub minute : second_after (moment 2026 11 28 7 14 30 59) ≡ moment 2026 11 28 7 14 31 0
  pub hour : second_after (moment 2026 11 28 7 14 59 59) ≡ moment 2026 11 28 7 15 0 0
  pub day : second_after (moment 2026 11 28 7 23 59 59) ≡ moment 2026 11 29 1 0 0 0
  pub leap_day : second_after (moment 2024 2 28 4 23 59 59) ≡ moment 2024 2 29 5 0 0 0
  pub no_leap_day : second_after (moment 2026 2 28 7 23 59 59) ≡ moment 2026 3 1 1 0 0 0
  pub year : second_after (moment 1999 12 31 6 23 59 59) ≡ moment 2000 1 1 7 0 0 0
