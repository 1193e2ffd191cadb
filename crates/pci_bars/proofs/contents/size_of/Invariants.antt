use Rattle.std.proofs.Common.{◌≡◌, ◌==◌, find, drop}
use Rattle.pci_bars.proofs.contents.size_of.Given as goal

abbrev pub invariant-loop-spec : goal.invariant-loop-spec
invariant-loop-spec l =
    find (λ card. card.dev == l.dev) (drop l.spec-index l.specs) ≡ find (λ card. card.dev == l.dev) l.specs
