use Rattle.std.proofs.Common.{◌≡◌, map, drop}
use Rattle.pci_bars.specs.Bases.{base_of}
use Rattle.addr_decode.specs.EdgeSearch.{nearest, ends_from}
use Rattle.addr_decode.proofs.edges.Nearest.see_bases.Given as goal

abbrev pub invariant-loop-index : goal.invariant-loop-index
invariant-loop-index l = record {
  so_far : nearest l.self.addr l.self.edge (ends_from l.values l.index (map base_of (drop l.index l.bases)))
      ≡ nearest l.fn.self.addr l.fn.self.edge (ends_from l.values 0 (map base_of l.bases));
  same : l.self.addr ≡ l.fn.self.addr;
}
