-- The date that `jiff` has is the one asked for, and its weekday is that of the calendar.
use Rattle.std.proofs.Common.{◌≡◌, arith, pos, unsigned_abs, ap, ◌∙◌, refl, w8, w16, FitsSigned}
use Rattle.std.proofs.lemmas.Int.{to_z_pos, to_z-of_z}
use Rattle.jiff_core.proofs.SignedLemmas.{signed_arith}
use Rattle.jiff_core.specs.Calendar.{weekday_number, days_from_civil}
use Rattle.board_base.proofs.CalendarLemmas.{dates_agree, weekdays_agree}
use Rattle.board_base.proofs.moment.weekday.Goals as goal

pub returns : goal.returns
returns c =
    let date = c.in-Ok.date in
    let same = c.in-Ok.ensures.value in
    let year : date.year ≡ pos c.args.year = same.0 ∙ to_z_pos w16 c.args.year (omega arith) in
    let month : date.month ≡ c.args.month = ap unsigned_abs (same.1 ∙ to_z_pos w8 c.args.month (omega arith)) in
    let day : date.day ≡ c.args.day = ap unsigned_abs (same.2 ∙ to_z_pos w8 c.args.day (omega arith)) in
    let is_date = dates_agree c.args.year c.args.month c.args.day date.year date.month date.day year month day
    (omega arith) (omega arith) date.month_in date.day_in in
    let number : weekday_number (days_from_civil date.year date.month date.day)
    ≡ weekday_number (days_from_civil (pos c.args.year) c.args.month c.args.day) =
    rw (year, month, day) refl in
    let weekday = weekdays_agree c.args.year c.args.month c.args.day (omega arith) is_date.day_low in
    let fits : FitsSigned w8 c.to_sunday_one_offset.result = omega (arith, signed_arith) in
    let value = ap unsigned_abs c.to_sunday_one_offset.ensures.value in
    record {
      exact = (
        is_date,
        rw (to_z-of_z w8 c.to_sunday_one_offset.result fits)
            (omega (arith, number, weekday, c.weekday.ensures, value)),
      );
    }
