use Rattle.std.proofs.Common.{◌≡◌, ◌≤◌, length, map}
use Rattle.board_prelude.proofs.{Setup, Bytes}
use Rattle.addr_decode.specs.MapRegs.{StandsFor, map_bytes}
use Rattle.board_stores.specs.Targets.{part_in}
use Rattle.board_stores.specs.Cycles.{accesses, answers}
use Rattle.board_stores.proofs.CutLemmas.{GoesOn}
use Rattle.board_stores.proofs.cut.cycles_of.Given as goal

abbrev pub invariant-loop : goal.invariant-loop
invariant-loop l = record {
  inside : l.done ≤ l.access.bytes;
  few : length l.cycles.items ≤ l.counter;
  parts : GoesOn l.access (accesses l.cycles.items) l.counter l.done;
  decoded : (setup : Setup) (bytes : Bytes) → StandsFor setup bytes (map_bytes l.regs) → setup.rom ≡ l.rom →
      answers l.cycles.items ≡ map (part_in setup bytes) (accesses l.cycles.items);
}
