-- Worked examples of the clock.
use Rattle.std.specs.Prelude.{◌≡◌, ℕ, Bool, true, false, List, [], ◌∷◌, map}
use Rattle.board_prelude.specs.{Moment, Clock, hour_byte, after_write, after_read, read_value, after_moment}
use Rattle.board_prelude.specs.{after_reset, civil_time}
use Rattle.board_examples.specs.Machines.Words.{digit, given, told}
use Rattle.device_spec.specs.Clock.{power_on, interrupt_line}

-- a write of a byte, a read and the byte that it gives, a moment, a hard reset, and the interrupt line
pub data Line : Type 0 where
  Out : (port byte : ℕ) → Line
  In : (port byte : ℕ) → Line
  At : Moment → Line
  Reset : Line
  Level : (level : Bool) → Line

abbrev pub after : Line → Clock → Clock
after (Out port byte) clock = after_write clock port byte
after (In port byte) clock = after_read clock port
after (At moment) clock = after_moment clock (civil_time moment)
after Reset clock = after_reset clock
after (Level level) clock = clock

abbrev pub gives : Line → Clock → List ℕ
gives (Out port byte) clock = []
gives (In port byte) clock = read_value clock port ∷ []
gives (At moment) clock = []
gives Reset clock = []
gives (Level level) clock = digit (interrupt_line clock) ∷ []

abbrev pub tells : Line → List ℕ
tells (Out port byte) = []
tells (In port byte) = byte ∷ []
tells (At moment) = []
tells Reset = []
tells (Level level) = digit level ∷ []

-- from power-on on, the clock gives what the lines say
abbrev pub Answers : List Line → Type 0
Answers lines = given gives after lines power_on ≡ told tells lines

-- ---- a moment

-- Thursday, 29 February 2024
abbrev pub leap_day : Moment
leap_day = record { year = 2024; month = 2; day = 29; weekday = 5; hour = 23; minute = 59; second = 58 }

-- its bytes, the flag of the update, which a read clears, and its hour on a clock face
abbrev pub a_leap_day : List Line
a_leap_day =
    At leap_day ∷ Out 0x70 0x04 ∷ In 0x71 0x23 ∷ Out 0x70 0x06 ∷ In 0x71 0x05 ∷ Out 0x70 0x07 ∷ In 0x71 0x29
    ∷ Out 0x70 0x09 ∷ In 0x71 0x24 ∷ Out 0x70 0x0C ∷ In 0x70 0xFF ∷ In 0x71 0x10 ∷ Out 0x70 0x0C ∷ In 0x71 0x00
    ∷ Out 0x70 0x0B ∷ Out 0x71 0x00 ∷ At leap_day ∷ Out 0x70 0x04 ∷ In 0x71 0x91 ∷ []

abbrev pub its_other_bytes : List Line
its_other_bytes =
    At leap_day ∷ Out 0x70 0x00 ∷ In 0x71 0x58 ∷ Out 0x70 0x01 ∷ In 0x71 0x00 ∷ Out 0x70 0x02 ∷ In 0x71 0x59
    ∷ Out 0x70 0x03 ∷ In 0x71 0x00 ∷ Out 0x70 0x05 ∷ In 0x71 0x00 ∷ Out 0x70 0x08 ∷ In 0x71 0x02 ∷ []

-- in binary
abbrev pub in_binary : List Line
in_binary =
    Out 0x70 0x0B ∷ Out 0x71 0x06 ∷ At leap_day ∷ Out 0x70 0x00 ∷ In 0x71 58 ∷ Out 0x70 0x02 ∷ In 0x71 59
    ∷ Out 0x70 0x04 ∷ In 0x71 23 ∷ Out 0x70 0x07 ∷ In 0x71 29 ∷ Out 0x70 0x09 ∷ In 0x71 24 ∷ []

-- the time stands still while SET is 1
abbrev pub standing_still : List Line
standing_still =
    At leap_day ∷ Out 0x70 0x0C ∷ In 0x71 0x10 ∷ Out 0x70 0x0B ∷ Out 0x71 0x82
    ∷ At (record { year = 2031; month = 7; day = 4; weekday = 6; hour = 10; minute = 20; second = 30 }) ∷ Out 0x70 0x0C
    ∷ In 0x71 0x00
    ∷ Out 0x70 0x04 ∷ In 0x71 0x23 ∷ Out 0x70 0x09 ∷ In 0x71 0x24 ∷ []

pub record AMoment : Type 0 where
  pub decimal : Answers a_leap_day
  pub others : Answers its_other_bytes
  pub binary : Answers in_binary
  pub still : Answers standing_still

-- hours in the four forms: decimal or binary, of a day or of a clock face
abbrev pub hours : List ℕ
hours = 0 ∷ 1 ∷ 9 ∷ 10 ∷ 11 ∷ 12 ∷ 13 ∷ 19 ∷ 20 ∷ 21 ∷ 22 ∷ 23 ∷ []

pub record HourForms : Type 0 where
  pub decimal_day : map (hour_byte 0x02) hours
      ≡ (0x00 ∷ 0x01 ∷ 0x09 ∷ 0x10 ∷ 0x11 ∷ 0x12 ∷ 0x13 ∷ 0x19 ∷ 0x20 ∷ 0x21 ∷ 0x22 ∷ 0x23 ∷ [])
  pub decimal_face : map (hour_byte 0x00) hours
      ≡ (0x12 ∷ 0x01 ∷ 0x09 ∷ 0x10 ∷ 0x11 ∷ 0x92 ∷ 0x81 ∷ 0x87 ∷ 0x88 ∷ 0x89 ∷ 0x90 ∷ 0x91 ∷ [])
  pub binary_day : map (hour_byte 0x06) hours
      ≡ (0x00 ∷ 0x01 ∷ 0x09 ∷ 0x0A ∷ 0x0B ∷ 0x0C ∷ 0x0D ∷ 0x13 ∷ 0x14 ∷ 0x15 ∷ 0x16 ∷ 0x17 ∷ [])
  pub binary_face : map (hour_byte 0x04) hours
      ≡ (0x0C ∷ 0x01 ∷ 0x09 ∷ 0x0A ∷ 0x0B ∷ 0x8C ∷ 0x81 ∷ 0x87 ∷ 0x88 ∷ 0x89 ∷ 0x8A ∷ 0x8B ∷ [])

-- ---- the alarm

-- register C after a moment at 23:59:58, with the alarm's second, minute and hour
abbrev pub alarm : (second minute hour flags : ℕ) → List Line
alarm second minute hour flags =
    Out 0x70 0x01 ∷ Out 0x71 second ∷ Out 0x70 0x03 ∷ Out 0x71 minute ∷ Out 0x70 0x05 ∷ Out 0x71 hour
    ∷ At leap_day ∷ Out 0x70 0x0C ∷ In 0x71 flags ∷ []

pub record Alarms : Type 0 where
  pub at_its_time : Answers (alarm 0x58 0x59 0x23 0x30)
  pub other_second : Answers (alarm 0x57 0x59 0x23 0x10)
  pub other_minute : Answers (alarm 0x58 0x58 0x23 0x10)
  pub other_hour : Answers (alarm 0x58 0x59 0x22 0x10)
  pub at_any_time : Answers (alarm 0xC0 0xC0 0xC0 0x30)
  pub any_second : Answers (alarm 0xFF 0x59 0x23 0x30)
  pub any_minute_and_hour : Answers (alarm 0x58 0xFF 0xDA 0x30)
  pub every_hour_at_zero : Answers (alarm 0xC0 0x00 0x23 0x10)
  pub no_wildcards : Answers (alarm 0xBF 0xBF 0xBF 0x10)

-- an alarm that rang stays until register C is read
abbrev pub an_alarm_stays : List Line
an_alarm_stays =
    Out 0x70 0x01 ∷ Out 0x71 0x58 ∷ Out 0x70 0x03 ∷ Out 0x71 0xFF ∷ Out 0x70 0x05 ∷ Out 0x71 0xFF ∷ At leap_day
    ∷ At (record { year = 2024; month = 2; day = 29; weekday = 5; hour = 23; minute = 59; second = 59 }) ∷ Out 0x70 0x0C
    ∷ In 0x71 0x30 ∷ In 0x71 0x00 ∷ []

unfoldable pub AnAlarmStays : Type 0
AnAlarmStays = Answers an_alarm_stays

-- ---- the interrupt line

-- register B as written, whether the line is 1 after a moment with a fitting alarm, register C, which is
-- then quiet, and register B as kept
abbrev pub interrupts : (control : ℕ) → (level : Bool) → (flags kept : ℕ) → List Line
interrupts control level flags kept =
    Out 0x70 0x01 ∷ Out 0x71 0xFF ∷ Out 0x70 0x03 ∷ Out 0x71 0xFF ∷ Out 0x70 0x05 ∷ Out 0x71 0xFF
    ∷ Out 0x70 0x0B ∷ Out 0x71 control ∷ At leap_day ∷ Level level
    ∷ Out 0x70 0x0C ∷ In 0x71 flags ∷ Level false ∷ In 0x71 0x00 ∷ Out 0x70 0x0B ∷ In 0x71 kept ∷ []

pub record Interrupts : Type 0 where
  pub no_switch : Answers (interrupts 0x02 false 0x30 0x02)
  pub of_updates : Answers (interrupts 0x12 true 0xB0 0x12)
  pub of_alarms : Answers (interrupts 0x22 true 0xB0 0x22)
  pub of_no_period : Answers (interrupts 0x4A false 0x30 0x4A)
  pub standing_still : Answers (interrupts 0xFF false 0x00 0xEF)
  pub never_of_a_standing_time : Answers (interrupts 0x92 false 0x00 0x82)

-- ---- the bytes

-- what power-on leaves, what a write of FF leaves of it, and a hard reset of that
abbrev pub each_byte : (index first written reset : ℕ) → List Line
each_byte index first written reset =
    In 0x70 0xFF ∷ Out 0x70 index ∷ In 0x71 first ∷ Out 0x71 0xFF ∷ In 0x71 written
    ∷ Reset ∷ Out 0x70 index ∷ In 0x71 reset ∷ []

pub record EachByte : Type 0 where
  pub second : Answers (each_byte 0x00 0x00 0xFF 0xFF)
  pub register_a : Answers (each_byte 0x0A 0x26 0x7F 0x7F)
  pub register_b : Answers (each_byte 0x0B 0x02 0xEF 0x87)
  pub register_c : Answers (each_byte 0x0C 0x00 0x00 0x00)
  pub register_d : Answers (each_byte 0x0D 0x80 0x80 0x80)
  pub first_memory : Answers (each_byte 0x0E 0x00 0xFF 0xFF)
  pub last_memory : Answers (each_byte 0x7F 0x00 0xFF 0xFF)
  pub bit_7_of_the_index : Answers (each_byte 0xFF 0x00 0xFF 0xFF)

-- a hard reset puts the index to 0 and clears the flags
abbrev pub a_hard_reset : List Line
a_hard_reset =
    Out 0x70 0x0B ∷ Out 0x71 0x1A ∷ At leap_day ∷ Level true ∷ Reset ∷ Level false ∷ In 0x71 0x58
    ∷ Out 0x70 0x0C ∷ In 0x71 0x00 ∷ Out 0x70 0x0B ∷ In 0x71 0x02 ∷ []

unfoldable pub AHardReset : Type 0
AHardReset = Answers a_hard_reset
