use Rattle.machine_records.specs.Strings.{AreInTurn, GoesOn, IsAny, writes}
use Rattle.machine_records.proofs.strings.write_all.Given as goal

abbrev pub invariant-loop-index : goal.invariant-loop-index
invariant-loop-index l = record {
  steps : AreInTurn (writes l.port l.bytes l.values) IsAny l.fn.machine l.fn.reply l.index l.machine l.reply;
  goes : GoesOn (writes l.port l.bytes l.values) IsAny l.index l.reply;
}
