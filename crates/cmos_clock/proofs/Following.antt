-- The moment after one lies one second later, and how large the parts of a moment are.
use Rattle.std.proofs.Common.{arith}
use Rattle.std.proofs.lemmas.Bool.Decides.{nat_tests}
use Rattle.board_base.proofs.CalendarLemmas.{next_day, next_month, next_year, weekday_of_bound, days_in_month_bound}
use Rattle.cmos_clock.specs.Seconds.{SecondsFollow}

pub seconds_follow : SecondsFollow
seconds_follow m is = grind (arith, nat_tests, next_day, next_month, next_year)

-- a weekday is at most 7, and a day of a month at most 31
pub ruleset calendar_bounds = (weekday_of_bound, days_in_month_bound)
