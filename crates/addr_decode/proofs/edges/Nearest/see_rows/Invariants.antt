use Rattle.std.proofs.Common.{◌≡◌, ◌*◌, map, drop}
use Rattle.board_spec.specs.Ranges.{boundary_unit}
use Rattle.addr_decode.specs.EdgeSearch.{nearest}
use Rattle.addr_decode.proofs.edges.Nearest.see_rows.Given as goal

abbrev pub invariant-loop-boundary : goal.invariant-loop-boundary
invariant-loop-boundary l = record {
  so_far : nearest l.self.addr l.self.edge (map (λ boundary. boundary * boundary_unit) (drop l.boundary-index l.drb))
      ≡ nearest l.fn.self.addr l.fn.self.edge (map (λ boundary. boundary * boundary_unit) l.drb);
  same : l.self.addr ≡ l.fn.self.addr;
}
