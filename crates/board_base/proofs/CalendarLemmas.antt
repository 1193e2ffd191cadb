-- The calendar of `specs/Calendar.antt` is that of `jiff`.
use Rattle.std.proofs.Common.{◌≡◌, ℕ, zero, suc, ◌+◌, ◌-◌, ◌%◌, ◌≤◌, true, refl, arith, ℤ, pos}
use Rattle.std.proofs.lemmas.Bool.Decides.{nat_tests}
use Rattle.std.specs.Int.{IsInRange}
use Rattle.jiff_core.specs.Calendar.{days_in_month as jiff_days_in_month, days_of_months as jiff_days_of_months}
use Rattle.jiff_core.specs.Calendar.{day_count, days_from_civil, weekday_number}
use Rattle.jiff_core.proofs.CalendarLemmas.{days_from_civil-day_count, day_count-day_of_year, day_count-next_year}
use Rattle.jiff_core.proofs.CalendarLemmas.{weekday_number-parts}
use Rattle.jiff_core.proofs.MarchLemmas.{day_count-early}
use Rattle.jiff_core.proofs.SignedLemmas.{signed_arith}
use Rattle.board_base.specs.Calendar.{days_in_month, days_of_months, days_of_years, days_since_1980, weekday_of, IsDate}
use Rattle.board_base.specs.Calendar.{MomentsDecided, WeekdaysFollow}
use Rattle.board_base.specs.Bits.{is_within}

-- the months of a year have as many days
months_agree : (year n : ℕ) → jiff_days_of_months (pos year) n ≡ days_of_months year n
unfolding jiff_days_of_months days_of_months
months_agree year zero = refl
months_agree year (suc n) = rw (months_agree year n) refl

-- the day counts of 1 January, from 1980 on
first_of_1980 : day_count (pos 1980) 1 1 ≡ 4_375_605
first_of_1980 = day_count-early (pos 1980) 11979 1 1 refl (omega arith) (omega arith) (omega arith)

first_of_year : (n : ℕ) → day_count (pos (1980 + n)) 1 1 ≡ 4_375_605 + days_of_years n
unfolding days_of_years
first_of_year zero = first_of_1980
first_of_year (suc n) =
    let more = day_count-next_year (pos (1980 + n)) (pos (1980 + suc n)) (omega (arith, signed_arith))
    (omega (arith, signed_arith)) in
    omega (arith, more, first_of_year n)

-- a date's day count
day_counts_agree : (year month day : ℕ) → 1980 ≤ year → 1 ≤ day →
    day_count (pos year) month day ≡ 4_375_605 + days_since_1980 year month day
unfolding days_since_1980
day_counts_agree year month day h low =
    let back : 1980 + (year - 1980) ≡ year = omega arith in
    omega (
      arith,
      rw back at (first_of_year (year - 1980)),
      day_count-day_of_year (pos year) month day low,
      months_agree year (month - 1),
    )

-- and its weekday
pub weekdays_agree : (year month day : ℕ) → 1980 ≤ year → 1 ≤ day →
    (weekday_number (days_from_civil (pos year) month day) + 1) % 7 + 1 ≡ weekday_of year month day
unfolding weekday_of
weekdays_agree year month day h low =
    omega (
      arith,
      signed_arith,
      weekday_number-parts (days_from_civil (pos year) month day),
      days_from_civil-day_count (pos year) month day,
      day_counts_agree year month day h low,
    )

-- a date that `jiff` has, in these years, is one of the calendar
pub dates_agree : (year month day : ℕ) (y : ℤ) (m d : ℕ) → y ≡ pos year → m ≡ month → d ≡ day → 1980 ≤ year →
    year ≤ 2099 → IsInRange 1 12 m → IsInRange 1 (jiff_days_in_month y m) d → IsDate year month day
dates_agree year month day y m d same_year same_month same_day first last in_year in_month =
    let months = rw same_month at in_year in
    let days = rw (same_year, same_month, same_day) at in_month in
    assumption (months, days)

-- a week has seven days
pub weekday_of_bound : (year month day : ℕ) → weekday_of year month day ≤ 7
unfolding weekday_of
weekday_of_bound year month day = omega arith

-- and a month at most 31
pub days_in_month_bound : (year month : ℕ) → days_in_month year month ≤ 31
days_in_month_bound year month = grind (arith, nat_tests)

months_add : (year months : ℕ) → 1 ≤ months → days_of_months year months
    ≡ days_of_months year (months - 1) + days_in_month year months
unfolding days_of_months
months_add year zero h = absurd (omega arith)
months_add year (suc months) h = let back : suc months - 1 ≡ months = omega arith in rw back

days_in_month_low : (year month : ℕ) → 28 ≤ days_in_month year month
days_in_month_low year month = grind (arith, nat_tests)

pub next_day : (year month day : ℕ) → 1 ≤ day → days_since_1980 year month (day + 1)
    ≡ days_since_1980 year month day + 1
unfolding days_since_1980
next_day year month day h = omega arith

pub next_month : (year month : ℕ) → 1 ≤ month → days_since_1980 year (month + 1) 1 ≡ days_since_1980 year month
    (days_in_month year month) + 1
unfolding days_since_1980
next_month year month h =
    let same : month + 1 - 1 ≡ month = omega arith in
    rw same (omega (arith, months_add year month h, days_in_month_low year month))

pub next_year : (year : ℕ) → 1980 ≤ year → days_since_1980 (year + 1) 1 1 ≡ days_since_1980 year 12 31 + 1
unfolding days_since_1980 days_of_years days_of_months
next_year year h = grind (arith, nat_tests, months_add)

pub weekdays_follow : WeekdaysFollow
unfolding weekday_of days_since_1980 days_of_years days_of_months
weekdays_follow = grind (arith, nat_tests, next_day, next_month, next_year)

-- ---- which moments there are

pub is_within_parts : (low high n : ℕ) → is_within low high n ≡ true → (low ≤ n) × (n ≤ high)
is_within_parts low high n test = grind (arith, nat_tests)

pub moments_decided : MomentsDecided
moments_decided year month day hour minute second =
    ((λ test. grind (arith, nat_tests)), (λ is. grind (arith, nat_tests, is.0, is.1)))
