use Rattle.std.proofs.Common.{sym}
use Rattle.board_spec.specs.Setup.{IsCard}
use Rattle.pci_bars.proofs.CardListLemmas.{found}
use Rattle.map_builder.proofs.changed.push_of_device.Goals as goal

pub push_of_card-requires-clause-card : goal.push_of_card-requires-clause-card
push_of_card-requires-clause-card c =
    (found (λ card. IsCard card.card) _ _ _ c.requires.cards (sym c.in-Some.ensures.found)).0
