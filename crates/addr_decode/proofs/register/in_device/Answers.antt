use Rattle.std.proofs.Common.{refl}
use Rattle.pci_bars.proofs.CardListLemmas.{find-cards}
use Rattle.addr_decode.proofs.register.in_device.Goals as goal

pub returns-in-Some : goal.returns-in-Some
returns-in-Some c = record {
  named =
      rw (← find-cards c.args.cards.now c.args.dev, ← c.in-Some.ensures.found) c.named_in_card.ensures.named;
}

pub returns-in-None : goal.returns-in-None
returns-in-None c = record { named = rw (← find-cards c.args.cards.now c.args.dev, ← c.in-None.ensures.found) refl }
