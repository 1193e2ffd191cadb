-- The examples are computed from the definitions.
use Rattle.std.proofs.Common.{arith, rules}
use Rattle.board_base.specs.Calendar.{weekday_of, days_since_1980, days_of_years, days_of_months}
use Rattle.library_examples.specs.Seconds.{MomentsShown, SecondsPass}

pub seconds : MomentsShown × SecondsPass
unfolding weekday_of days_since_1980 days_of_years days_of_months
seconds = search (rules, arith)
