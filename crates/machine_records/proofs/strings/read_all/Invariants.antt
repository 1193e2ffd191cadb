use Rattle.std.proofs.Common.{◌≡◌, length, drop}
use Rattle.machine_records.specs.Strings.{AreInTurn, GoesOn, IsValue, reads}
use Rattle.machine_records.proofs.strings.read_all.Given as goal

abbrev pub invariant-loop-index : goal.invariant-loop-index
invariant-loop-index l = record {
  steps : AreInTurn (reads l.port l.bytes) (IsValue l.values) l.fn.machine l.fn.reply l.index l.machine l.reply;
  goes : GoesOn (reads l.port l.bytes) (IsValue l.values) l.index l.reply;
  size : length l.values ≡ length l.fn.values;
  rest : drop l.index l.values ≡ drop l.index l.fn.values;
}
