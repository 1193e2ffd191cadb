-- The state of the clock is spelled and read back.
use Rattle.std.proofs.Common.{refl, arith}
use Rattle.byte_fields.proofs.Formats.{IsFormat, fields_format, ◌then◌, ◌&◌, last_field, plain_format}
use Rattle.byte_fields.proofs.Numbers.{byte_to, flag_format}
use Rattle.cmos_clock.specs.State.{IsClock, clock_bytes, clock_fields}

pub clock_format : IsFormat 131 clock_fields clock_bytes IsClock
unfolding clock_fields
clock_format =
    fields_format
    (byte_to 127 (omega arith) then λ index good.
    flag_format then λ alarm_flag good.
    flag_format then λ update_flag good.
    last_field _ (plain_format 128))
    (λ c is. (
      (c.index, omega (arith, is.index)) & (c.alarm_flag, tt) & (c.update_flag, tt) & (c.bytes, is.size),
      refl,
    ))
    (λ t. (record { index = omega (arith, t.1); size = t.2.2.2.1 }, refl))
