-- What is still to be read, after the windows so far, is all that is read.
use Rattle.std.proofs.Common.{◌≡◌, ◌-◌, length}
use Rattle.byte_fields.proofs.Loops.{with_front}
use Rattle.map_builder.specs.State.{so_many_windows}
use Rattle.map_builder.proofs.state.read_so_many.Given as goal

abbrev pub invariant-loop : goal.invariant-loop
invariant-loop l = record {
  read :
      with_front l.windows.items (so_many_windows (l.count - l.counter) l.fields) ≡ so_many_windows l.count l.fn.fields;
  count : length l.windows.items ≡ l.counter;
}
