use Rattle.std.proofs.Common.{◌∙◌, sym, rules, tests, ◌==◌}
use Rattle.std.proofs.lemmas.Iterator.{YieldsList-from_slice}
use Rattle.std.proofs.lemmas.Iterator.Search.{any_from_yields_List}
use Rattle.scripts.proofs.Reasons.{card_kept}
use Rattle.scripts.proofs.reading.Reading.has_card.Goals as goal

pub returns : goal.returns
returns c = record {
  card = λ items is. any_from_yields_List (λ card. card.dev == c.args.dev) _ _ c.any.result c.any.ensures.ran
      (YieldsList-from_slice c.args.self.now.cards.items (c.iter.ensures.rest ∙ c.deref.ensures.value))
      (λ x b q k. search (rules, tests))
      ∙ sym (card_kept items c.args.self.now is c.args.dev);
}
