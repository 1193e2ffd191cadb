-- The state of the IDE function is spelled and read back.
use Rattle.std.proofs.Common.{refl}
use Rattle.byte_fields.proofs.Formats.{IsFormat, fields_format, ◌then◌, ◌&◌, last_field}
use Rattle.byte_fields.proofs.Numbers.{any_byte}
use Rattle.south_bridge.specs.IdeState.{IsIde, ide_bytes, ide_fields}

pub ide_format : IsFormat 3 ide_fields ide_bytes IsIde
unfolding ide_fields
ide_format =
    fields_format
    (any_byte then λ command good.
    any_byte then λ timing_low good.
    last_field _ any_byte)
    (λ i is. ((i.command, is.command) & (i.timing_low, is.timing_low) & (i.timing_high, is.timing_high), refl))
    (λ t. (record { command = t.1; timing_low = t.2.1; timing_high = t.2.2.1 }, refl))
