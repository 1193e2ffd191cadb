-- No moment is found only where the registers say none: the numbers of one that they say are those that were found.
use Rattle.std.proofs.Common.{◌≡◌, ℕ, Option, Some, None, SomeIff, ap, arith}
use Rattle.board_base.specs.declared.moment.Moment.{Moment}
use Rattle.device_spec.specs.Clock.{Clock, byte_at, control_of, second_at, minute_at, hour_at, day_at, month_at}
use Rattle.device_spec.specs.Clock.{year_at}
use Rattle.std.proofs.lemmas.Bool.Decides.{nat_tests}
use Rattle.board_base.proofs.CalendarLemmas.{days_in_month_bound}
use Rattle.cmos_clock.specs.Seconds.{AreDateBytes, AreTimeBytes, IsShown}
use Rattle.cmos_clock.proofs.cmos.Cmos.shown.Goals as goal

not_there : {A : Type 0} (found : Option A) (P : Type 0) (value : A) → SomeIff found P value → found ≡ None → P → ⊥
not_there None P value is none holds = is holds
not_there (Some one) P value is none holds = absurd cc

same_three : (p q : ℕ × ℕ × ℕ) → Some p ≡ Some q → (p.0 ≡ q.0) × (p.1 ≡ q.1) × (p.2 ≡ q.2)
same_three p q same = let three : p ≡ q = cc in (ap (λ r. r.0) three, ap (λ r. r.1) three, ap (λ r. r.2) three)

date_said : (clock : Clock) (shown : Moment) → IsShown clock shown → AreDateBytes (control_of clock)
    (byte_at clock year_at) (byte_at clock month_at) (byte_at clock day_at) shown.year shown.month shown.day
date_said clock shown is = grind (arith, nat_tests, days_in_month_bound)

time_said : (clock : Clock) (shown : Moment) → IsShown clock shown → AreTimeBytes (control_of clock)
    (byte_at clock hour_at) (byte_at clock minute_at) (byte_at clock second_at) shown.hour shown.minute shown.second
time_said clock shown is = grind (arith, nat_tests)

pub returns-clause-none : goal.returns-clause-none
returns-clause-none c = λ none shown is.
    let date = same_three _ _ (c.in_ok-year.ensures.only shown.year shown.month shown.day
    (rw (c.control-control.ensures.byte, c.bytes-bytes.ensures.bytes) (date_said c.args.self.now shown is))) in
    let time = same_three _ _ (c.in_ok-hour.ensures.only shown.hour shown.minute shown.second
    (rw (c.control-control.ensures.byte, c.bytes-bytes.ensures.bytes) (time_said c.args.self.now shown is))) in
    not_there c.new.result _ _ c.new.ensures.exact none
    (rw (date.0, date.1, date.2, time.0, time.1, time.2) (is.moment.date, is.moment.time))
