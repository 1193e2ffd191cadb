use Rattle.std.proofs.Common.{◌+◌, ◌-◌, ◌≤◌, map}
use Rattle.board_prelude.proofs.{Setup, Bytes}
use Rattle.addr_decode.specs.MapRegs.{StandsFor, map_bytes}
use Rattle.addr_decode.specs.Edges.{edges_after}
use Rattle.map_builder.specs.Ranges.{range_of}
use Rattle.map_builder.specs.Build.{IsBuilt}
use Rattle.map_builder.proofs.build.rows_in.Given as goal

abbrev pub invariant-loop-edge : goal.invariant-loop-edge
invariant-loop-edge g l = record {
  built : IsBuilt (map_bytes l.regs) (map range_of l.ranges.items) (range_of l.last) l.addr;
  within : l.addr ≤ l.interval.hi;
  rows : (setup : Setup) (bytes : Bytes) → StandsFor setup bytes (map_bytes l.regs) →
      l.steps + edges_after setup bytes l.addr ≤ l.fn.steps + edges_after setup bytes l.interval.lo;
}

abbrev pub decreases-loop-edge : goal.decreases-loop-edge
decreases-loop-edge g l = 0xFFFF_FFFF - l.addr
