use Rattle.std.proofs.Common.{◌<◌, ℕ, get_or}
use Rattle.pci_bars.specs.Cards.{CardBytes}
use Rattle.addr_decode.specs.State.{IsWideCard}
use Rattle.addr_decode.proofs.state.are_wide.Given as goal

abbrev pub invariant-loop-card : goal.invariant-loop-card
invariant-loop-card l = (k : ℕ) (d : CardBytes) → k < l.card-index → IsWideCard (get_or l.cards k d)
