-- The laws of the clock's machine.
use Rattle.std.proofs.Common.{◌≡◌, ℕ, ◌%◌, ◌<◌, false, ◌&&◌, List, nat_le, ◌==◌, if◌then◌else◌, suc, length, get_or}
use Rattle.std.proofs.Common.{set, refl, ◌∙◌, arith, get_or-set_other, get_or-set_same}
use Rattle.board_prelude.proofs.{cases_eq, nat_tests, get_or-set_at, length-set, CivilTime, Clock, number_byte}
use Rattle.board_prelude.proofs.{hour_byte, control_of, time_bytes, put, alarm_fits, alarm_rings, control_reset}
use Rattle.board_prelude.proofs.{written, is_bit}
use Rattle.device_spec.specs.Clock.{power_on}
use Rattle.board_laws.specs.ClockLaws.{number_read, hour_read, IsShowable, HasAlarm, same_time_of_day, ReadingQuiets}
use Rattle.board_laws.specs.ClockLaws.{ResetKeepsTheTime, MemoryKeeps, StaysSound, ShowsTheMoment}

-- bytes with others at the seven places of the time and the calendar, and what stays
record Timed (bytes after : List ℕ) (second minute hour weekday day month year : ℕ) : Type 0 where
  seconds : get_or after 0 0 ≡ second
  second_alarm : get_or after 1 0 ≡ get_or bytes 1 0
  minutes : get_or after 2 0 ≡ minute
  minute_alarm : get_or after 3 0 ≡ get_or bytes 3 0
  hours : get_or after 4 0 ≡ hour
  hour_alarm : get_or after 5 0 ≡ get_or bytes 5 0
  weekdays : get_or after 6 0 ≡ weekday
  days : get_or after 7 0 ≡ day
  months : get_or after 8 0 ≡ month
  years : get_or after 9 0 ≡ year
  register_a : get_or after 10 0 ≡ get_or bytes 10 0
  control : get_or after 11 0 ≡ get_or bytes 11 0
  size : length after ≡ 128

told : (clock : Clock) (time : CivilTime) → length clock.bytes ≡ 128 →
    let c = control_of clock in
    Timed clock.bytes (put (time_bytes c time) clock.bytes) (number_byte c time.second) (number_byte c time.minute)
    (hour_byte c time.hour) (number_byte c time.weekday) (number_byte c time.day) (number_byte c time.month)
    (number_byte c (time.year % 100))
told clock time size = grind (arith, get_or-set_at, get_or-set_other, length-set)

pub reading_quiets : ReadingQuiets
reading_quiets clock is_c = rw is_c (record { flags = refl; line = refl })

-- a number, or an hour, that is read by the control under which it was written
read_as : (control byte c n : ℕ) → control ≡ c → byte ≡ number_byte c n → n < 100 → number_read control byte ≡ n
read_as control byte c n e f h = grind (arith, nat_tests)

hour_read_as : (control byte c n : ℕ) → control ≡ c → byte ≡ hour_byte c n → n < 24 → hour_read control byte ≡ n
hour_read_as control byte c n e f h = grind (arith, nat_tests)

pub shows : ShowsTheMoment
shows clock time size let_in showable = grind (arith, nat_tests, told, read_as, hour_read_as)

-- an alarm byte fits the bytes of its own time
module _ (c a n alarm time : ℕ) where
  number_fits : a < 100 → n < 100 → alarm ≡ number_byte c a → time ≡ number_byte c n → alarm_fits alarm time ≡ (a == n)
  number_fits low_a low_n is_alarm is_time = grind (arith, nat_tests, read_as)

  hour_fits : a < 24 → n < 24 → alarm ≡ hour_byte c a → time ≡ hour_byte c n → alarm_fits alarm time ≡ (a == n)
  hour_fits low_a low_n is_alarm is_time = grind (arith, nat_tests, hour_read_as)

pub rings : (clock : Clock) (time alarm : CivilTime) → length clock.bytes ≡ 128 → IsShowable time → IsShowable alarm →
    HasAlarm clock alarm → alarm_rings (put (time_bytes (control_of clock) time) clock.bytes)
    ≡ same_time_of_day alarm time
rings clock time alarm size now due set_to =
    let c = control_of clock in
    let is = told clock time size in
    rw (
      number_fits c alarm.second time.second _ _ (omega (arith, due.seconds)) (omega (arith, now.seconds))
          (is.second_alarm ∙ set_to.seconds) is.seconds,
      number_fits c alarm.minute time.minute _ _ (omega (arith, due.minutes)) (omega (arith, now.minutes))
          (is.minute_alarm ∙ set_to.minutes) is.minutes,
      hour_fits c alarm.hour time.hour _ _ due.hours now.hours (is.hour_alarm ∙ set_to.hours) is.hours,
    ) refl

reset_bit : (b k : ℕ) → k < 8 → is_bit (control_reset b) k ≡ (if nat_le 3 k && nat_le k 6 then false else is_bit b k)
reset_bit b (suc (suc (suc (suc (suc (suc (suc (suc k)))))))) h = absurd (omega arith)
reset_bit b _ h = grind (arith, nat_tests)

pub reset_keeps_the_time : ResetKeepsTheTime
reset_keeps_the_time clock size =
    grind (arith, nat_tests, length, control_of, get_or-set_other, get_or-set_same, control_reset, reset_bit)

pub memory_keeps : MemoryKeeps
memory_keeps clock address byte size past_registers within =
    grind (arith, nat_tests, get_or, length, set, get_or-set_same, get_or-set_other)

-- the byte of a register after a write of any byte
register_after : (bytes : List ℕ) (register k byte : ℕ) → register < length bytes →
    get_or (set bytes k (written k (get_or bytes k 0) byte)) register 0
    ≡ (if k == register then written register (get_or bytes register 0) byte else get_or bytes register 0)
register_after bytes register k byte inside =
    grind (arith, nat_tests, cases_eq, get_or-set_same, written, get_or, get_or-set_other)

pub stays_sound : StaysSound
unfolding power_on
stays_sound = record {
  at_power_on = record { size = refl; within = omega arith; no_update = omega arith; stopped = λ never. refl };
  at_read = λ clock port was. grind (arith, nat_tests);
  at_write = λ clock port byte was.
      let a = register_after clock.bytes 10 clock.index byte (omega (arith, was.size)) in
      let b = register_after clock.bytes 11 clock.index byte (omega (arith, was.size)) in
      grind (arith, nat_tests, length-set);
  at_moment = λ clock time was. let is = told clock time was.size in grind (arith, nat_tests);
  at_reset = λ clock was.
      let b = control_of clock in
      let there = get_or-set_same clock.bytes 11 (control_reset b) 0 (omega (arith, was.size)) in
      let a_same = get_or-set_other clock.bytes 11 10 (control_reset b) 0 (omega arith) in
      grind (arith, nat_tests, length-set, reset_bit b 4 (omega arith));
}
