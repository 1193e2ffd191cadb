use Rattle.std.proofs.Common.{◌≡◌, ◌≤◌, ◌+◌, ◌*◌, ◌++◌, length, flat_map, take}
use Rattle.board_prelude.proofs.{Setup, Bytes}
use Rattle.addr_decode.specs.MapRegs.{StandsFor, map_bytes}
use Rattle.map_builder.specs.Changed.{name_windows}
use Rattle.map_builder.proofs.changed.push_of_names.Given as goal

abbrev pub invariant-loop-name : goal.invariant-loop-name
invariant-loop-name l = record {
  few : length l.windows.items ≤ length l.fn.windows.items + 8 * l.name-index;
  so_far : (setup : Setup) (bytes : Bytes) → StandsFor setup bytes (map_bytes l.regs) →
      l.windows.items ≡ l.fn.windows.items ++ flat_map (name_windows setup bytes) (take l.name-index l.names);
}
