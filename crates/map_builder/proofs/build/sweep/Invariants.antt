use Rattle.std.proofs.Common.{◌+◌, ◌≤◌, map, drop}
use Rattle.board_prelude.proofs.{Setup, Bytes}
use Rattle.addr_decode.specs.MapRegs.{StandsFor, map_bytes}
use Rattle.addr_decode.specs.Edges.{edges_after}
use Rattle.map_builder.specs.Ranges.{range_of}
use Rattle.map_builder.specs.Find.{BeginsBelow}
use Rattle.map_builder.specs.Sorted.{rows_in}
use Rattle.map_builder.proofs.RebuildLemmas.{Sweep}
use Rattle.map_builder.proofs.build.sweep.Given as goal

abbrev pub invariant-loop-index : goal.invariant-loop-index
invariant-loop-index g l = record {
  sweep : Sweep (map_bytes l.regs) (map range_of l.ranges.items) (range_of l.last) (map range_of l.before) l.hi
      (drop l.index l.windows);
  rows : (setup : Setup) (bytes : Bytes) → StandsFor setup bytes (map_bytes l.regs) →
      l.steps + rows_in (edges_after setup bytes) (drop l.index l.windows)
      ≤ l.fn.steps + rows_in (edges_after setup bytes) l.windows;
  from : BeginsBelow l.before l.from l.hi;
}
