use Rattle.std.proofs.Common.{◌<◌, ℕ, get_or}
use Rattle.pci_bars.specs.Cards.{CardBytes}
use Rattle.map_builder.specs.Map.{HoldsDoublewords}
use Rattle.map_builder.proofs.widths.hold_doublewords.Given as goal

abbrev pub invariant-loop-card : goal.invariant-loop-card
invariant-loop-card l = (k : ℕ) (d : CardBytes) → k < l.card-index → HoldsDoublewords (get_or l.cards k d)
