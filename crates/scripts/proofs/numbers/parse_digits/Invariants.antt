use Rattle.std.proofs.Common.{◌≡◌, ◌<◌, ◌^◌, drop}
use Rattle.script_spec.specs.Numbers.{number_after}
use Rattle.scripts.proofs.numbers.parse_digits.Given as goal

abbrev pub invariant-loop-byte : goal.invariant-loop-byte
invariant-loop-byte l = record {
  below : l.number < l.base ^ l.byte-index;
  kept : number_after l.base l.number (drop l.byte-index l.field) ≡ number_after l.base 0 l.field;
}
