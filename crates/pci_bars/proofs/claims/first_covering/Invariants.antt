use Rattle.std.proofs.Common.{◌≡◌, map, drop}
use Rattle.pci_bars.specs.Bases.{base_of}
use Rattle.pci_bars.specs.Claims.{covering}
use Rattle.pci_bars.proofs.claims.first_covering.Given as goal

abbrev pub invariant-loop-index : goal.invariant-loop-index
invariant-loop-index l =
    covering l.windows l.values l.place l.index (map base_of (drop l.index l.bases))
    ≡ covering l.windows l.values l.place 0 (map base_of l.bases)
