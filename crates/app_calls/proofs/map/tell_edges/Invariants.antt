use Rattle.pci_bars.specs.Cards.{AreFitted}
use Rattle.app_calls.proofs.map.tell_edges.Given as goal

abbrev pub invariant-loop-step : goal.invariant-loop-step
invariant-loop-step l = AreFitted l.regs.cards.items
