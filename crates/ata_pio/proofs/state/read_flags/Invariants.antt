-- What is still to be read, after the flags so far, is all that is read.
use Rattle.std.proofs.Common.{◌≡◌, ◌-◌, length}
use Rattle.byte_fields.proofs.Loops.{with_front}
use Rattle.ata_pio.specs.State.{flags_fields}
use Rattle.ata_pio.proofs.state.read_flags.Given as goal

abbrev pub invariant-loop : goal.invariant-loop
invariant-loop l = record {
  read : with_front l.flags.items (flags_fields (l.count - l.counter) l.fields) ≡ flags_fields l.count l.fn.fields;
  count : length l.flags.items ≡ l.counter;
}
