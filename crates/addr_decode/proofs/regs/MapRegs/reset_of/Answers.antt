use Rattle.std.proofs.Common.{◌≡◌, ◌∙◌, sym, arith, take_all}
use Rattle.pci_bars.specs.Cards.{cards_of}
use Rattle.addr_decode.proofs.CardLemmas.{fitted_list}
use Rattle.addr_decode.proofs.regs.MapRegs.reset_of.Goals as goal

all_pushed : (c : goal.After-after_reset) → cards_of c.loop-spec.cards.items ≡ c.args.specs.now
all_pushed c = c.loop-spec.invariant.pushed ∙ take_all c.loop-spec.spec-index c.args.specs.now (omega arith)

pub after_reset-requires-clause-cards : goal.after_reset-requires-clause-cards
after_reset-requires-clause-cards c =
    fitted_list _ _ (c.loop-spec.invariant.pushed ∙ take_all _ c.args.specs.now (omega arith)) c.requires.cards

pub returns-clause-stands : goal.returns-clause-stands
returns-clause-stands c = λ setup same. c.after_reset.ensures.stands setup (same ∙ sym (all_pushed c))

pub returns-clause-fitted : goal.returns-clause-fitted
returns-clause-fitted c = rw c.after_reset.ensures.cards (fitted_list _ _ (all_pushed c) c.requires.cards)

pub returns-clause-reset : goal.returns-clause-reset
returns-clause-reset c = λ setup same. c.after_reset.ensures.reset setup (same ∙ sym (all_pushed c))
