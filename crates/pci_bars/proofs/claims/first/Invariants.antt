use Rattle.std.proofs.Common.{◌≡◌, drop}
use Rattle.pci_bars.specs.Claims.{first_claim}
use Rattle.pci_bars.proofs.claims.first.Given as goal

abbrev pub invariant-loop-card : goal.invariant-loop-card
invariant-loop-card l =
    first_claim l.windows l.gate l.place (drop l.card-index l.cards) ≡ first_claim l.windows l.gate l.place l.cards
