use Rattle.std.proofs.Common.{◌≡◌, ℕ, ◌∙◌, ◌+◌, ◌++◌, [], ◌∷◌, ap, sym, List, arith}
use Rattle.board_spec.specs.Setup.{FittedCard}
use Rattle.pci_bars.specs.Cards.{CardBytes, cards_of}
use Rattle.pci_bars.proofs.CardListLemmas.{added-cards, added-count, added-reset}
use Rattle.addr_decode.proofs.CardLemmas.{fitted_same, one_more_pushed, all_pushed}
use Rattle.addr_decode.proofs.regs.MapRegs.reset.Goals as goal

pub after_reset-requires-clause-cards : goal.after_reset-requires-clause-cards
after_reset-requires-clause-cards c =
    fitted_same c.args.self.now.cards.items _ (all_pushed _ _ _ _ c.loop-card.invariant.pushed (omega arith)
    c.as_slice-card-items.ensures.value) c.requires.cards

same_cards : (c : goal.After-after_reset) → cards_of c.loop-card.cards.items ≡ cards_of c.args.self.now.cards.items
same_cards c = all_pushed _ _ _ _ c.loop-card.invariant.pushed (omega arith) c.as_slice-card-items.ensures.value

pub returns-clause-stands : goal.returns-clause-stands
returns-clause-stands c = λ setup same. c.after_reset.ensures.stands setup (same ∙ sym (same_cards c))

pub loop-card-preserved : goal.loop-card-preserved
loop-card-preserved c = record {
  from = c.loop-card.invariant.from;
  few = c.loop-card.invariant.few;
  count = added-count _ _ _ c.push_card.ensures.added ∙ ap (λ (n : ℕ). n + 1) c.loop-card.invariant.count;
  pushed =
      one_more_pushed _ _ _ _ _ (omega arith) c.card-item.is (c.copy.ensures.equal ∙ ap
      (λ (card : CardBytes). card.card) c.card.view_is) (added-cards _ _ _ c.push_card.ensures.added
      ∙ ap (λ (first : List FittedCard). first ++ c.copy.result ∷ []) c.loop-card.invariant.pushed);
  reset = added-reset _ _ _ c.push_card.ensures.added c.loop-card.invariant.reset;
}

pub returns-clause-reset : goal.returns-clause-reset
returns-clause-reset c = λ setup same. c.after_reset.ensures.reset setup (same ∙ sym (same_cards c))
