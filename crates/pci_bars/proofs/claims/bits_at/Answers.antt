use Rattle.std.proofs.Common.{Some, ◌∙◌, sym, ap, refl}
use Rattle.board_spec.specs.Setup.{IsCard}
use Rattle.pci_bars.specs.Bases.{bits_in}
use Rattle.pci_bars.specs.Cards.{CardBytes}
use Rattle.pci_bars.proofs.CardListLemmas.{find-cards, found}
use Rattle.pci_bars.proofs.claims.bits_at.Goals as goal

pub window_bits-requires : goal.window_bits-requires
window_bits-requires c =
    let fit = (found (λ card. IsCard card.card) c.args.cards.now _ _ c.requires.cards
    (sym c.in-Some.ensures.found)).0 in
    record { card = rw (← c.card.view_is) at fit }

pub returns-in-Some-clause-bits : goal.returns-in-Some-clause-bits
returns-in-Some-clause-bits c =
    c.window_bits.ensures.bits
    ∙ ap (λ (card : CardBytes). bits_in (Some card.card) c.args.base) c.card.view_is
    ∙ rw (← find-cards c.args.cards.now c.args.dev, ← c.in-Some.ensures.found) refl

pub returns-in-None-clause-bits : goal.returns-in-None-clause-bits
returns-in-None-clause-bits c =
    rw (c.bits_of_none.ensures.bits, ← find-cards c.args.cards.now c.args.dev, ← c.in-None.ensures.found) refl
