-- What is still to be read, after the cards so far, is all that is read.
use Rattle.std.proofs.Common.{◌≡◌, ◌-◌, length}
use Rattle.byte_fields.proofs.Loops.{with_front}
use Rattle.machine.specs.Identities.{some_identities}
use Rattle.machine.proofs.identities.read_some.Given as goal

abbrev pub invariant-loop : goal.invariant-loop
invariant-loop l = record {
  read : with_front l.cards.items (some_identities tt (l.count - l.counter) l.fields)
      ≡ some_identities tt l.count l.fn.fields;
  count : length l.cards.items ≡ l.counter;
}
