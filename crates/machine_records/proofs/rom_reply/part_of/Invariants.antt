use Rattle.std.proofs.Common.{◌≡◌, ◌≤◌, ◌*◌, drop}
use Rattle.machine_records.specs.RomReplies.{part_of}
use Rattle.machine_records.proofs.rom_reply.part_of.Given as goal

abbrev pub invariant-loop-part : goal.invariant-loop-part
invariant-loop-part l = record {
  reached : l.before ≤ l.place;
  few : l.before ≤ 4 * l.part-index;
  same : part_of (drop l.part-index l.parts) l.addr l.bytes l.before l.place ≡ part_of l.parts l.addr l.bytes 0 l.place;
}
