-- The state of the clock as bytes: its index, its two flags, and its 128 bytes by address.
use Rattle.std.specs.Prelude.{ℕ, ◌≡◌, ◌<◌, List, ◌∷◌, length}
use Rattle.std.specs.Int.{w8}
use Rattle.byte_fields.specs.Fields.{Reading, gives, ◌>>=◌, within, flag_byte, flag_field, plain}
use Rattle.device_spec.specs.Clock.{Clock}

-- the index is one of 128 addresses
pub record IsClock (clock : Clock) : Type 0 where
  pub index : clock.index < 128
  pub size : length clock.bytes ≡ 128

abbrev pub clock_bytes : Clock → List ℕ
clock_bytes clock =
    clock.index ∷ flag_byte clock.alarm_flag ∷ flag_byte clock.update_flag ∷ clock.bytes

-- the fields, each with the values that it can have
unfoldable pub clock_fields : Reading Clock
clock_fields = do
  index ← within w8 0 127
  alarm_flag ← flag_field
  update_flag ← flag_field
  bytes ← plain 128
  gives (record { index = index; bytes = bytes; alarm_flag = alarm_flag; update_flag = update_flag })
