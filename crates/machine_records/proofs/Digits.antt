-- The digits of a moment, read back.
use Rattle.board_prelude.proofs.{nat_tests, Moment, IsMoment, Time}
use Rattle.std.proofs.Common.{◌≡◌, ℕ, ◌+◌, ◌*◌, Some, refl, arith}
use Rattle.board_base.proofs.CalendarLemmas.{days_in_month_bound}
use Rattle.uart_16550.specs.declared.com1.Happening.TheVariants.{Happens}
use Rattle.machine_records.specs.declared.event.EventRecord.{EventRecord}
use Rattle.machine_records.specs.Events.{asked_by, asked_said, digits_said, event_said, moment_said}

digits_told : (digits : ℕ) (m : Moment) → IsMoment m →
    digits ≡ ((m.year * 100 + m.month) * 100 + m.day) * 1_000_000 + ((m.hour * 100 + m.minute) * 100 + m.second) →
    digits_said digits ≡ Some (Time m)
unfolding digits_said moment_said
digits_told digits m is same = grind (arith, nat_tests, days_in_month_bound)

-- the record of the digits of a moment says it
pub time_said : (event : EventRecord) (m : Moment) → IsMoment m → event.what ≡ 6 → event.reserved ≡ 0 → event.smm ≡ 0 →
    event.value ≡ ((m.year * 100 + m.month) * 100 + m.day) * 1_000_000 + ((m.hour * 100 + m.minute) * 100 + m.second) →
    asked_said event ≡ Some (Happens (Time m))
unfolding asked_said event_said asked_by
time_said event m is what reserved smm value =
    rw (what, reserved, smm, digits_told event.value m is value) refl
