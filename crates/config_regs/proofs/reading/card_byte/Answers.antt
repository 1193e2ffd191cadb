use Rattle.std.proofs.Common.{◌≡◌, ℕ, ◌<◌, List, Some, ◌∙◌, ap, ◌==◌, All, length, get_or}
use Rattle.std.proofs.lemmas.List.Quantifiers.{position-Some}
use Rattle.board_prelude.proofs.{position, eqb-true, IsCard}
use Rattle.pci_bars.specs.Cards.{CardBytes, IsCardOf}
use Rattle.config_regs.proofs.reading.card_byte.Goals as goal

-- what holds of each card holds of the one at the place of a device number, and it has the number
at_place : (P : CardBytes → Type 0) (cards : List CardBytes) (dev place : ℕ) (d : CardBytes) → All P cards →
    position (λ card. card.card.dev == dev) cards ≡ Some place →
    (place < length cards) × P (get_or cards place d) × ((get_or cards place d).card.dev ≡ dev)
at_place P cards dev place d each at =
    let found = position-Some (λ card. card.card.dev == dev) cards place d at in
    (found.0, each place d found.0, eqb-true _ _ found.1)

pub read-requires : goal.read-requires
read-requires c = record {
  card = rw c.index-cards-place.is (at_place (λ card. IsCard card.card) _ _ _ _ c.requires.cards c.requires.place).1;
}

pub returns : goal.returns
returns c = record {
  byte = λ setup bytes are.
      let it = at_place (IsCardOf setup bytes) _ _ _ c.index-cards-place.result are.1 c.requires.place in
      rw (← ap (λ (card : CardBytes). card.card.dev) c.index-cards-place.is ∙ it.2)
      (c.read.ensures.byte setup bytes (rw c.index-cards-place.is it.1));
}
