use Rattle.std.proofs.Common.{None, ◌∙◌}
use Rattle.pci_bars.proofs.CardListLemmas.{card_is, at_index, at_position, no_position, map_twice}
use Rattle.pci_bars.proofs.cards.card_at.Goals as goal

pub returns : goal.returns
returns c =
    let found = at_index c.args.cards.now c.in_ok-card_index.field-0 _ c.get.ensures.lookup.0 c.get.ensures.lookup.1
    ∙ at_position c.args.cards.now c.args.dev _ c.in_ok-card_index.ensures.index in
    record {
      found = found;
      fitted = λ setup same. map_twice c.get.result ∙ card_is setup c.args.cards.now c.args.dev _ same found;
    }

pub returns-in_err-card_index : goal.returns-in_err-card_index
returns-in_err-card_index c =
    let none = no_position c.args.cards.now c.args.dev c.in_err-card_index.ensures.index in
    rw c.from_residual.ensures (record {
      found = none;
      fitted = λ setup same. card_is setup c.args.cards.now c.args.dev None same none;
    })
