use Rattle.addr_decode.proofs.regs.MapRegs.apply_named.Goals as goal

pub returns-in-Store-clause-stands : goal.returns-in-Store-clause-stands
returns-in-Store-clause-stands c = λ setup bytes stands. rw c.in-Store.is (c.store.ensures.stands setup bytes stands)

pub returns-in-Store-clause-cards : goal.returns-in-Store-clause-cards
returns-in-Store-clause-cards c = λ setup bytes are. rw c.in-Store.is (c.store.ensures.cards setup bytes are)

pub returns-in-Reset-clause-stands : goal.returns-in-Reset-clause-stands
returns-in-Reset-clause-stands c = λ setup bytes stands.
    rw c.in-Reset.is (c.reset.ensures.stands setup stands.cards.0)

pub returns-in-Reset-clause-cards : goal.returns-in-Reset-clause-cards
returns-in-Reset-clause-cards c = λ setup bytes are. rw c.in-Reset.is (c.reset.ensures.reset setup are.0)
