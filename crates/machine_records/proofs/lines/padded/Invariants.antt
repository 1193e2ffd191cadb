use Rattle.std.proofs.Common.{◌≡◌, length, take, drop, replicate}
use Rattle.machine_records.proofs.lines.padded.Given as goal

abbrev pub invariant-loop-index : goal.invariant-loop-index
invariant-loop-index l = record {
  size : length l.all ≡ 16;
  front : take l.index l.all ≡ take l.index l.bytes;
  rest : drop l.index l.all ≡ drop l.index (replicate 16 0);
}
