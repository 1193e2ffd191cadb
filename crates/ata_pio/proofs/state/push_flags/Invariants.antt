-- The flags so far are added.
use Rattle.std.proofs.Common.{◌≡◌, ◌++◌, take, map}
use Rattle.byte_fields.specs.Fields.{flag_byte}
use Rattle.ata_pio.proofs.state.push_flags.Given as goal

abbrev pub invariant-loop-flag : goal.invariant-loop-flag
invariant-loop-flag l = l.into.items ≡ l.fn.into.items ++ map flag_byte (take l.flag-index l.flags)
